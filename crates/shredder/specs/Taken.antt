-- Members that fields take, one after the other. What no field takes is kept.
use Rattle.std.specs.Prelude.{◌≡◌, ◌<◌, ℕ, Bool, true, false, not, ◌&&◌, List, [], ◌∷◌, length, get_or, Option, Some, None, bytes_eq}
use Rattle.json_tree.specs.Json.{Fields, no_fields}
use Rattle.json_tree.specs.Json as json
use Rattle.json_tree.specs.declared.types.Tree.{Tree}
use Rattle.shred_schema.specs.Groups.{Groups, no_groups, field}

-- of each member, whether it is kept after that of a name is taken
abbrev pub without : List ℕ → List Bool → Fields → List Bool
without name [] members = []
without name (keep ∷ kept) no_fields = keep ∷ kept
without name (keep ∷ kept) (json.field other j members) = (not (bytes_eq name other) && keep) ∷ without name kept members

-- and after those of all fields are
abbrev pub without_all : Groups → List Bool → Fields → List Bool
without_all no_groups kept members = kept
without_all (field name n gs) kept members = without_all gs (without name kept members) members

-- a member of the name stands at a place
pub record IsAt (name : List ℕ) (pairs : List (List ℕ × Tree)) (i : ℕ) : Type 0 where
  pub inside : i < length pairs
  pub same : (pair : List ℕ × Tree) → bytes_eq (get_or pairs i pair).0 name ≡ true

-- no member of the name stands at a place
pub record IsApart (name : List ℕ) (pairs : List (List ℕ × Tree)) (place : ℕ) : Type 0 where
  pub other : (pair : List ℕ × Tree) → place < length pairs → bytes_eq (get_or pairs place pair).0 name ≡ false

-- no member of the name stands before a place
pub record IsPast (name : List ℕ) (pairs : List (List ℕ × Tree)) (place : ℕ) : Type 0 where
  pub each : (k : ℕ) → k < place → IsApart name pairs k

-- no member has the name
pub record IsNowhere (name : List ℕ) (pairs : List (List ℕ × Tree)) : Type 0 where
  pub apart : (k : ℕ) (pair : List ℕ × Tree) → k < length pairs → bytes_eq (get_or pairs k pair).0 name ≡ false

-- the place of the member of the name, if there is one
abbrev pub IsPlace : List ℕ → List (List ℕ × Tree) → Option ℕ → Type 0
IsPlace name pairs None = IsNowhere name pairs
IsPlace name pairs (Some i) = IsAt name pairs i
