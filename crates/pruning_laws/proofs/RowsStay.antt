-- A row without a violation has none under any mask.
use Rattle.std.proofs.Common.{◌≡◌, ◌∙◌, refl, sym, ap, ℕ, Bool, true, false, List, [], Option, Some, None, Result, Ok}
use Rattle.json_tree.specs.Json.{Json}
use Rattle.vs_bytes.specs.Outcome.{◌>>=◌}
use Rattle.vs_bytes.specs.declared.rule.Rule.{Rule}
use Rattle.shred_schema.specs.Groups.{Group}
use Rattle.shred_schema.specs.Ranges.{every}
use Rattle.shred_schema.specs.Recs.{Rec, absent, present}
use Rattle.shredding_laws.proofs.SameNames.{seen_same}
use Rattle.unshredder.specs.Merging.{or_null}
use Rattle.unshredder.specs.Rows.{has_value, names_needed, row_seen, row_of}
use Rattle.unshredder.specs.Seen.{seen}
use Rattle.pruning_laws.proofs.Chains.{steps_of}
use Rattle.pruning_laws.proofs.MoreRead.{value_every}
use Rattle.pruning_laws.proofs.Stays.{stays}

-- what is seen of a row that is there, by the names of its metadata: all of it, and what a mask shows
pub record StaysRow (mask : ℕ → Bool) (n : Group) (meta : List ℕ) (x : Rec) (row : Option Json) : Type 0 where
  pub names : List (List ℕ)
  pub whole : Option Json
  pub shown : Option Json
  pub is_whole : seen every names n 1 0 x ≡ Ok whole
  pub row_is : row ≡ Some (or_null whole)
  pub is_shown : seen mask names n 1 0 x ≡ Ok shown
  pub is_row : row_seen mask n (present meta x) ≡ Ok (Some (or_null shown))

same_row : (row found : Option Json) → ◌≡◌ {A = Result (Option Json) Rule} (Ok row) (Ok found) → found ≡ row
same_row row found h = cc

module _ (mask : ℕ → Bool) (n : Group) (meta : List ℕ) (x : Rec) where
  row_by : (names : List (List ℕ)) (shown : Option Json)
      → names_needed (has_value mask n 1 x) meta ≡ Ok names → seen mask names n 1 0 x ≡ Ok shown → row_seen mask n (present meta x) ≡ Ok (Some (or_null shown))
  unfolding row_seen
  row_by names shown needed is =
      ap (λ (r : Result (List (List ℕ)) Rule). r >>= λ ns. seen mask ns n 1 0 x >>= λ found. Ok (Some (or_null found))) needed
      ∙ ap (λ (r : Result (Option Json) Rule). r >>= λ found. Ok (Some (or_null found))) is

  -- a mask that reads no value that is there asks for no names
  row_shown : (names : List (List ℕ)) (shown : Option Json)
      → names_needed (has_value every n 1 x) meta ≡ Ok names → seen mask names n 1 0 x ≡ Ok shown → row_seen mask n (present meta x) ≡ Ok (Some (or_null shown))
  row_shown names shown needed is = by (has_value mask n 1 x) refl
    where
      by : (b : Bool) → has_value mask n 1 x ≡ b → row_seen mask n (present meta x) ≡ Ok (Some (or_null shown))
      by true e = row_by names shown (ap (λ b. names_needed b meta) (e ∙ sym (value_every mask n 1 x e)) ∙ needed) is
      by false e = row_by [] shown (ap (λ b. names_needed b meta) e) (seen_same mask [] names n 1 0 x e ∙ is)

  pub row_stays : (row : Option Json) → row_of n (present meta x) ≡ Ok row → StaysRow mask n meta x row
  unfolding row_seen
  row_stays row h =
      let first = steps_of (names_needed (has_value every n 1 x) meta) (λ ns. seen every ns n 1 0 x >>= λ found. Ok (Some (or_null found))) row h in
      let second = steps_of (seen every first.value n 1 0 x) (λ found. Ok (Some (or_null found))) row first.rest in
      let one = stays mask first.value n 1 0 x second.value second.is in
      record {
        names = first.value;
        whole = second.value;
        shown = one.shown;
        is_whole = second.is;
        row_is = same_row (Some (or_null second.value)) row second.rest;
        is_shown = one.is;
        is_row = row_shown first.value one.shown first.is one.is;
      }

-- an absent row is absent under any mask

pub absent_shown : (mask : ℕ → Bool) (n : Group) → row_seen mask n absent ≡ Ok None
unfolding row_seen
absent_shown mask n = refl

pub absent_row : (n : Group) (row : Option Json) → row_of n absent ≡ Ok row → row ≡ None
unfolding row_seen
absent_row n row h = same_row None row h
