-- Rows, and trees found in them, as plain data.
use Rattle.std.specs.Prelude.{List, map, Option, option_map}
use Rattle.std.specs.Borrow.{Bor}
use Rattle.json_tree.specs.Json.{Json}
use Rattle.json_tree.specs.View.{view}
use Rattle.json_tree.specs.declared.types.Tree.{Tree}

abbrev pub row_of : Option (Bor Tree) → Option Json
row_of row = option_map (λ tree. view tree.now) row

abbrev pub found_of : List (Bor Tree) → List Json
found_of trees = map (λ tree. view tree.now) trees
