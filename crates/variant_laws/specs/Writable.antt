-- Values that can be written.
use Rattle.std.specs.Prelude.{ℕ, ◌+◌, ◌^◌, ◌<◌, ◌≤◌, List, length}
use Rattle.json_tree.specs.Json.{Json, depth_of}
use Rattle.json_tree.specs.Text.{text_of}
use Rattle.json_tree.specs.Valid.{IsValid}
use Rattle.variant_read.specs.Meaning.{max_nesting}
use Rattle.variant_write.specs.Conditions.{HasNames, max_text_len}

-- a value can be written inside `above` arrays and objects, by the names of a dictionary
pub record IsWritable (ns : List (List ℕ)) (above : ℕ) (json : Json) : Type 0 where
  pub few : length ns < 2 ^ 32
  pub valid : IsValid json
  pub named : HasNames ns json
  pub depth : above + depth_of json ≤ max_nesting
  pub short : length (text_of json) ≤ max_text_len
