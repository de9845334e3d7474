-- A typed part that alone tells what its node means.
use Rattle.std.specs.Prelude.{◌≡◌, ℕ, true, false, ◌&&◌, List, ◌++◌, Option, is_some, Result, Ok}
use Rattle.json_tree.specs.Json.{Json}
use Rattle.vs_bytes.specs.Outcome.{◌>>=◌}
use Rattle.vs_bytes.specs.declared.rule.Rule.{Rule}
use Rattle.unshredder.specs.Merging.{member}
use Rattle.unshredder.specs.declared.readings.Reading.{Reading, out-Reading}

-- some leaf of the typed part is read, and beside it no value that is read is there
pub record IsAlone (r : Reading) (value : Option (List ℕ)) : Type 0 where
  pub typed : (out-Reading r).typed ≡ true
  pub unseen : (out-Reading r).value && is_some value ≡ false

-- members that were seen before, and then the member that a field gives
abbrev pub with_member : List (List ℕ × Json) → List ℕ → Result (Option Json) Rule → Result (List (List ℕ × Json)) Rule
with_member members name found = found >>= λ o. Ok (members ++ member name o)
