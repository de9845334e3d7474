-- A step that goes into no typed part of the node's kind: what it finds stands in the value.
use Rattle.std.proofs.Common.{◌≡◌, ◌∙◌, refl, sym, ap, ℕ, ◌+◌, Bool, true, false, cond, List, [], ◌∷◌, ◌++◌, Option, None, Some, Result, Ok}
use Rattle.json_tree.specs.Json.{Json, null, boolean, number, text, array, object, fields_of}
use Rattle.json_tree.specs.Order.{sorted}
use Rattle.vs_bytes.specs.Outcome.{◌>>=◌}
use Rattle.vs_bytes.specs.declared.leaf_columns.Cell.{Cell}
use Rattle.vs_bytes.specs.declared.leaf_columns.Cell.TheVariants as typed
use Rattle.vs_bytes.specs.declared.leaf_columns.PrimKind.{PrimKind}
use Rattle.vs_bytes.specs.declared.rule.Rule.{Rule}
use Rattle.query_tree.specs.declared.step.Step.{Step}
use Rattle.query_tree.specs.declared.step.Step.TheVariants.{Field, Index, Star}
use Rattle.path_query.specs.Matches.{parts_at, at}
use Rattle.shred_schema.specs.Fits.{tree_of}
use Rattle.shred_schema.specs.Groups.{Group, Kind, free, scalar, object_of, list_of, Groups, slot_width, kind_width}
use Rattle.shred_schema.specs.Ranges.{is_among, is_any_read, every}
use Rattle.shred_schema.specs.Recs.{RecPart, empty, cell, fields, items}
use Rattle.shred_schema.specs.declared.nodes.Slot.{Slot}
use Rattle.unshredder.specs.Merging.{left_over, with_cell, with_fields, without_fields}
use Rattle.unshredder.specs.Seen.{is_tested, items_seen, seen, typed_seen, fields_seen}
use Rattle.chunk_pruning.specs.Needs.{step_need}
use Rattle.pruning_laws.proofs.Chains.{steps_of}
use Rattle.pruning_laws.proofs.KeepsLists.{IsListSeen, list_parts}
use Rattle.pruning_laws.proofs.KeepsMatches.{IsInto, parts_in, at_same}
use Rattle.pruning_laws.proofs.KeepsValues.{IsSeen, shown_same}
use Rattle.pruning_laws.proofs.Stays.{no_object}

-- the step goes into no typed part of this kind
abbrev pub IsPast : Step → Kind → Type 0
IsPast step free = Unit {0}
IsPast step (scalar q) = Unit {0}
IsPast (Field name) (list_of n) = Unit {0}
IsPast (Index i) (object_of gs) = Unit {0}
IsPast Star (object_of gs) = Unit {0}
IsPast step t = ⊥

-- it needs the value
pub past_needs : (step : Step) (s : Slot) (t : Kind) (inside : Group → ℕ → Bool) (k j : ℕ) → IsPast step t → step_need step s t inside k j ≡ is_among j k (slot_width s)
past_needs (Field name) s free inside k j past = refl
past_needs (Index i) s free inside k j past = refl
past_needs Star s free inside k j past = refl
past_needs (Field name) s (scalar q) inside k j past = refl
past_needs (Index i) s (scalar q) inside k j past = refl
past_needs Star s (scalar q) inside k j past = refl
past_needs (Field name) s (list_of n) inside k j past = refl
past_needs (Index i) s (list_of n) inside k j past = absurd past
past_needs Star s (list_of n) inside k j past = absurd past
past_needs (Field name) s (object_of gs) inside k j past = absurd past
past_needs (Index i) s (object_of gs) inside k j past = refl
past_needs Star s (object_of gs) inside k j past = refl

-- What a typed part shows beside the value has no parts for the step.

cell_parts : (step : Step) (q : PrimKind) (c : Cell) → parts_at step (tree_of q c) ≡ []
cell_parts (Field name) q (typed.Bool b) = refl
cell_parts (Field name) q (typed.Num u) = refl
cell_parts (Field name) q (typed.Bytes bs) = refl
cell_parts (Index i) q (typed.Bool b) = refl
cell_parts (Index i) q (typed.Num u) = refl
cell_parts (Index i) q (typed.Bytes bs) = refl
cell_parts Star q (typed.Bool b) = refl
cell_parts Star q (typed.Num u) = refl
cell_parts Star q (typed.Bytes bs) = refl

past_cell : (step : Step) (q : PrimKind) (c : Cell) (value o : Option Json) → with_cell value (tree_of q c) ≡ Ok o → parts_in step o ≡ parts_in step value
past_cell step q c None o h = let is : Some (tree_of q c) ≡ o = cc in rw (sym is) (cell_parts step q c)
past_cell step q c (Some j) o h = absurd cc

past_list : (name : List ℕ) (value o : Option Json) (found : Result (List Json) Rule) → IsListSeen value found o → parts_in (Field name) o ≡ parts_in (Field name) value
past_list name value o found seen = rw (seen.alone, seen.is) refl

-- an object has no elements
object_bare : (step : Step) (value : Option Json) (gs : Groups) (left : List (List ℕ × Json)) → IsInto step → left_over gs value ≡ Ok left → parts_in step value ≡ []
object_bare step None gs left into h = refl
object_bare (Field name) (Some (object fs)) gs left into h = absurd into
object_bare (Index i) (Some (object fs)) gs left into h = refl
object_bare Star (Some (object fs)) gs left into h = refl
object_bare step (Some null) gs left into h = absurd cc
object_bare step (Some (boolean b)) gs left into h = absurd cc
object_bare step (Some (number d)) gs left into h = absurd cc
object_bare step (Some (text x)) gs left into h = absurd cc
object_bare step (Some (array ps)) gs left into h = absurd cc

members_bare : (step : Step) (ms : List (List ℕ × Json)) → IsInto step → parts_in step (Some (object (fields_of ms))) ≡ []
members_bare (Field name) ms into = absurd into
members_bare (Index i) ms into = refl
members_bare Star ms into = refl

past_object : (step : Step) (gs : Groups) (value o : Option Json) (found : Result (List (List ℕ × Json)) Rule) → IsInto step → with_fields gs value found ≡ Ok o → parts_in step o ≡ parts_in step value
past_object step gs value o found into h =
    let whole : List (List ℕ × Json) → List (List ℕ × Json) → Option Json = λ left ms. Some (object (fields_of (sorted (left ++ ms)))) in
    let one = steps_of (left_over gs value) (λ left. found >>= λ ms. Ok (whole left ms)) o h in
    let two = steps_of found (λ ms. Ok (whole one.value ms)) o one.rest in
    let is : whole one.value two.value ≡ o = let e = two.rest in cc in
    rw (sym is) (members_bare step (sorted (one.value ++ two.value)) into ∙ sym (object_bare step value gs one.value into one.is))

given : (step : Step) (value o : Option Json) → ◌≡◌ {A = Result (Option Json) Rule} (Ok value) (Ok o) → parts_in step o ≡ parts_in step value
given step value o h = let is : value ≡ o = cc in ap (parts_in step) (sym is)

without : (step : Step) (value o : Option Json) → without_fields value ≡ Ok o → parts_in step o ≡ parts_in step value
without step value o h = ap (parts_in step) (sym (no_object value o h))

module _ (mask : ℕ → Bool) (names : List (List ℕ)) (step : Step) (k above : ℕ) (value o : Option Json) where
  past_fields : (gs : Groups) (p : RecPart) → IsInto step → typed_seen mask names (object_of gs) k above value p ≡ Ok o → parts_in step o ≡ parts_in step value
  past_fields gs (fields xs) into h = past_object step gs value o (fields_seen mask names gs k (above + 1) xs) into h
  past_fields gs empty into h = without step value o h
  past_fields gs (cell c) into h = without step value o h
  past_fields gs (items xs) into h = without step value o h

  past_scalar : (q : PrimKind) (p : RecPart) → typed_seen mask names (scalar q) k above value p ≡ Ok o → parts_in step o ≡ parts_in step value
  past_scalar q (cell c) h = past_cell step q c value o h
  past_scalar q empty h = given step value o h
  past_scalar q (fields xs) h = given step value o h
  past_scalar q (items xs) h = given step value o h

past_items : (mask : ℕ → Bool) (names : List (List ℕ)) (name : List ℕ) (k above : ℕ) (value o : Option Json) (n : Group) (p : RecPart)
    → typed_seen mask names (list_of n) k above value p ≡ Ok o → parts_in (Field name) o ≡ parts_in (Field name) value
past_items mask names name k above value o n (items xs) h =
    let found = items_seen (is_tested mask k n) (seen mask names n k (above + 1)) xs in
    past_list name value o found (list_parts value found o h)
past_items mask names name k above value o n empty h = given (Field name) value o h
past_items mask names name k above value o n (cell c) h = given (Field name) value o h
past_items mask names name k above value o n (fields xs) h = given (Field name) value o h

past_typed : (mask : ℕ → Bool) (names : List (List ℕ)) (step : Step) (t : Kind) (k above : ℕ) (value o : Option Json) (p : RecPart) → IsPast step t
    → typed_seen mask names t k above value p ≡ Ok o → parts_in step o ≡ parts_in step value
past_typed mask names step free k above value o p past h = given step value o h
past_typed mask names step (scalar q) k above value o p past h = past_scalar mask names step k above value o q p h
past_typed mask names (Field name) (list_of n) k above value o p past h = past_items mask names name k above value o n p h
past_typed mask names (Index i) (list_of n) k above value o p past h = absurd past
past_typed mask names Star (list_of n) k above value o p past h = absurd past
past_typed mask names (Field name) (object_of gs) k above value o p past h = absurd past
past_typed mask names (Index i) (object_of gs) k above value o p past h = past_fields mask names (Index i) k above value o gs p tt h
past_typed mask names Star (object_of gs) k above value o p past h = past_fields mask names Star k above value o gs p tt h

-- read or not
past_either : (step : Step) (read : Bool) (r : Result (Option Json) Rule) (value o : Option Json) → (r ≡ Ok o → parts_in step o ≡ parts_in step value)
    → cond read r (Ok value) ≡ Ok o → parts_in step o ≡ parts_in step value
past_either step true r value o past h = past h
past_either step false r value o past h = given step value o h

pub value_keeps : (mask : ℕ → Bool) (names : List (List ℕ)) (step : Step) (steps : List Step) (s : Slot) (t : Kind) (k above : ℕ) (v : Option (List ℕ)) (p : RecPart) (less o : Option Json)
    → IsPast step t
    → ((j : ℕ) → is_among j k (slot_width s) ≡ true → mask j ≡ true) → IsSeen mask names s t k above v p less → IsSeen every names s t k above v p o → at (step ∷ steps) less ≡ at (step ∷ steps) o
value_keeps mask names step steps s t k above v p less o past needs few all =
    let first = k + slot_width s in
    let left = past_either step (is_any_read mask first (kind_width t)) (typed_seen mask names t first above few.value p) few.value less
    (past_typed mask names step t first above few.value less p past) few.of_typed in
    let right = past_either step (is_any_read every first (kind_width t)) (typed_seen every names t first above all.value p) all.value o
    (past_typed every names step t first above all.value o p past) all.of_typed in
    at_same step steps less o (left ∙ ap (parts_in step) (shown_same mask names s t k above v p less o few all needs) ∙ sym right)
