-- What is printed of documents.
use Rattle.std.specs.Prelude.{ℕ, List, [], ◌∷◌, ◌++◌, Some}
use Rattle.std.specs.List.{flat_map}
use Rattle.vs_bytes.specs.Hex.{hex_of}
use Rattle.byte_parsing.specs.Bytes.{space, line_feed}
use Rattle.json_tree.specs.Json.{Json}
use Rattle.path_query.specs.Answer.{row_text}
use Rattle.variant_meta.specs.Written.{coded_names}
use Rattle.variant_write.specs.Coded.{coded}
use Rattle.variant_write.specs.Dictionaries.{dictionary}
use Rattle.variant_write.specs.declared.widths.Widths.{Widths}
use Rattle.variant_store.specs.Stream.{Stream, scan, variant}

-- the metadata of a dictionary and the bytes of a value, in hex, with a space between them and a line feed
abbrev pub variant_text : List (List ℕ) → Widths → Json → List ℕ
variant_text names widths json = hex_of (coded_names widths.offset names) ++ space ∷ (hex_of (coded names json widths) ++ line_feed ∷ [])

-- by the dictionary of the value itself
abbrev pub variant_line : Widths → Json → List ℕ
variant_line widths json = variant_text (dictionary json) widths json

-- what is printed of a document; to a query it is a row
abbrev pub printed : Stream → Json → List ℕ
printed (scan asked) json = row_text asked (Some json)
printed (variant widths) json = variant_line widths json

-- and of documents, in order
abbrev pub answer_over : Stream → List Json → List ℕ
answer_over stream documents = flat_map (printed stream) documents
