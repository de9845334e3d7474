-- Which values are documents: those that their canonical text spells.
use Rattle.std.specs.Prelude.{◌≤◌, length}
use Rattle.json_lines.specs.Cut.{max_line}
use Rattle.json_tree.specs.Json.{Json, depth_of}
use Rattle.json_tree.specs.Text.{text_of}
use Rattle.json_tree.specs.Valid.{IsValid}

-- what every value that a line spells is
pub record IsLineValue (json : Json) : Type 0 where
  pub valid : IsValid json
  pub shallow : depth_of json ≤ 64

-- one whose canonical text is no longer than a line may be
pub record IsDocument (json : Json) : Type 0 where
  pub is_line_value : IsLineValue json
  pub short : length (text_of json) ≤ max_line
