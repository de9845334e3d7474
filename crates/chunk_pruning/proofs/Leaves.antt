-- A query needs leaves of the column alone.
use Rattle.std.proofs.Common.{◌≡◌, ◌∙◌, sym, refl, ℕ, ◌+◌, ◌<◌, ◌≤◌, ◌==◌, ◌||◌, Bool, true, false, List, [], ◌∷◌, Option, Some, None, arith}
use Rattle.std.specs.List.{list_any}
use Rattle.std.proofs.lemmas.Bool.Decides.{nat_tests}
use Rattle.query_tree.specs.Asked.{Asked}
use Rattle.query_tree.specs.declared.step.Step.{Step}
use Rattle.query_tree.specs.declared.step.Step.TheVariants.{Field, Index, Star}
use Rattle.shred_schema.specs.Groups.{Group, group, Kind, object_of, list_of, Groups, slot_width, width, kind_width, groups_width}
use Rattle.shred_schema.specs.Ranges.{is_among}
use Rattle.shred_schema.specs.declared.nodes.Slot.{Slot}
use Rattle.shred_schema.proofs.LeafRanges.{among_from, among_low, among_high, among_left, among_right}
use Rattle.chunk_pruning.specs.Fields.{field_at}
use Rattle.chunk_pruning.specs.Needs.{is_value, in_field, step_need, need, paths_of, is_needed}
use Rattle.chunk_pruning.proofs.Needed.{field_here, field_absent, field_after, field_within}

or_split : (a b : Bool) (P : Type 0) → (a ≡ true → P) → (b ≡ true → P) → (a || b) ≡ true → P
or_split true b P left right e = left refl
or_split false b P left right e = right e

among_inside : (j first count k whole : ℕ) → k ≤ first → first + count ≤ k + whole → is_among j first count ≡ true → is_among j k whole ≡ true
among_inside j first count k whole low high e =
    let from : first ≤ j = among_low j first count e in
    let before : j < first + count = among_high j first count e in
    among_from j k whole (omega arith) (omega arith)

-- a field's leaves are among those of all
field_among : (inside : Group → ℕ → Bool) (name : List ℕ) (other : Bool) (gs : Groups) (j k : ℕ) (P : Type 0)
    → ((n : Group) (m : ℕ) → inside n m ≡ true → is_among j m (width n) ≡ true) → (other ≡ true → P) → (is_among j k (groups_width gs) ≡ true → P)
    → in_field inside name other gs k ≡ true → P
field_among inside name other gs j k P within absent found e = by (field_at name gs k) refl
  where
    by : (o : Option (Group × ℕ)) → field_at name gs k ≡ o → P
    by None is = absent (sym (field_absent inside name other gs k is) ∙ e)
    by (Some r) is =
        found
        (among_inside j r.1 (width r.0) k (groups_width gs) (field_after name gs k r.0 r.1 is) (field_within name gs k r.0 r.1 is)
        (within r.0 r.1 (sym (field_here inside name other gs k r.0 r.1 is) ∙ e)))

module _ (s : Slot) (inside : Group → ℕ → Bool) (j k : ℕ) (within : (n : Group) (m : ℕ) → inside n m ≡ true → is_among j m (width n) ≡ true) where
  value_among : (t : Kind) → is_value s k j ≡ true → is_among j k (slot_width s + kind_width t) ≡ true
  value_among t e = among_left j k (slot_width s) (kind_width t) e

  element_among : (n : Group) → (is_value s k j || inside n (k + slot_width s)) ≡ true → is_among j k (slot_width s + width n) ≡ true
  element_among n e =
      or_split (is_value s k j) (inside n (k + slot_width s)) (is_among j k (slot_width s + width n) ≡ true)
      (among_left j k (slot_width s) (width n))
      (λ inner. among_right j k (slot_width s) (width n) (within n (k + slot_width s) inner))
      e

  step_among : (step : Step) (t : Kind) → step_need step s t inside k j ≡ true → is_among j k (slot_width s + kind_width t) ≡ true
  step_among (Field name) (object_of gs) e =
      field_among inside name (is_value s k j) gs j (k + slot_width s) (is_among j k (slot_width s + groups_width gs) ≡ true) within (value_among (object_of gs)) (among_right j k (slot_width s) (groups_width gs)) e
  step_among (Index i) (list_of n) e = element_among n e
  step_among Star (list_of n) e = element_among n e
  step_among step t e = value_among t e

need_among : (steps : List Step) (n : Group) (k j : ℕ) → need steps n k j ≡ true → is_among j k (width n) ≡ true
need_among [] n k j e = e
need_among (step ∷ steps) (group s t) k j e = step_among s (λ n m. need steps n m j) j k (λ n m. need_among steps n m j) step t e

some_among : (paths : List (List Step)) (n : Group) (j : ℕ) → list_any (λ steps. need steps n 1 j) paths ≡ true → is_among j 1 (width n) ≡ true
some_among (steps ∷ paths) n j e =
    or_split (need steps n 1 j) (list_any (λ steps. need steps n 1 j) paths) (is_among j 1 (width n) ≡ true) (need_among steps n 1 j) (some_among paths n j) e
some_among [] n j e = cc

pub needed_within : (asked : Asked) (n : Group) (j : ℕ) → is_needed asked n j ≡ true → j < 1 + width n
needed_within asked n j e = or_split (j == 0) (list_any (λ steps. need steps n 1 j) (paths_of asked)) (j < 1 + width n) first (λ some. among_high j 1 (width n) (some_among (paths_of asked) n j some)) e
  where
    first : (j == 0) ≡ true → j < 1 + width n
    first e = grind (arith, nat_tests)
