-- What the two ways of holding entries hold.
use Rattle.std.specs.Prelude.{List}
use Rattle.vs_bytes.specs.declared.leaf_columns.Entry.{Entry}
use Rattle.pages.specs.declared.open_pages.Held.{Held}
use Rattle.pages.specs.declared.open_pages.Held.TheVariants as held

abbrev pub entries_held : Held → List Entry
entries_held (held.Ready entries) = entries
entries_held (held.Waiting entries) = entries
