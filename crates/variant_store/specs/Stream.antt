-- What a command prints of each document of its input.
use Rattle.query_tree.specs.Asked.{Asked}
use Rattle.variant_write.specs.declared.widths.Widths.{Widths}

pub data Stream : Type 0 where
  -- the lines of a query
  scan : Asked → Stream
  -- the document as a Variant, in hex
  variant : Widths → Stream
