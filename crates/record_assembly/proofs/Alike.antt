-- The full mask leaves all of a record, so rows with equal entries are equal.
use Rattle.std.proofs.Common.{◌≡◌, ◌∙◌, refl, sym, ap, ap₂, ℕ, ◌+◌, ◌≤◌, Bool, true, false, not, cond, List, [], ◌∷◌, map, Option, Some, None, arith}
use Rattle.std.specs.List.{AllByRecursion}
use Rattle.shred_schema.specs.declared.nodes.Slot.{Slot}
use Rattle.shred_schema.specs.declared.nodes.Slot.TheVariants.{Absent, Required, Optional}
use Rattle.shred_schema.specs.Groups.{Group, group, Kind, free, scalar, object_of, list_of, Groups, no_groups, field, slot_width, width, kind_width, groups_width}
use Rattle.shred_schema.specs.Lawful.{HasEither, MayHold, HasField, EachIn, EachField, AreNodes, HasLeaves, KindHasLeaves, GroupsHaveLeaves}
use Rattle.shred_schema.specs.Ranges.{is_among, every, none_read}
use Rattle.shred_schema.specs.Recs.{Rec, rec, RecPart, empty, cell, fields, items, Recs, no_recs, recs, recs_in, recs_from, EachRec, RowRec, absent, present}
use Rattle.shred_schema.specs.Shapes.{Stands, IsOf, PartIsOf, FieldsAreOf, RowIsOf}
use Rattle.shred_schema.proofs.NodeFacts.{nodes_width}
use Rattle.shred_schema.proofs.ReadLeaves.{any_of_every}
use Rattle.level_striping.specs.Entries.{stripes}
use Rattle.record_assembly.specs.Reading.{rows_read}
use Rattle.record_assembly.specs.Shown.{shown, part_shown, fields_shown, row_shown}
use Rattle.record_assembly.proofs.Complete.{empty_shown}
use Rattle.record_assembly.proofs.Rows.{rows_complete}

not_any : (b : Bool) → not b ≡ true → b ≡ false
not_any true e = cc
not_any false e = refl

-- where there is a leaf, the full mask reads one
some_of_every : (k c : ℕ) → 1 ≤ c → none_read every k c ≡ false
some_of_every k c h = not_any (none_read every k c) (any_of_every k c (omega arith))

there : {A : Type 0} (b : Bool) (x y z : A) → b ≡ false → y ≡ z → cond b x y ≡ z
there b x y z e h = rw e h

value_whole : (s : Slot) (k : ℕ) (v : Option (List ℕ)) → Stands s v → cond (none_read every k (slot_width s)) None v ≡ v
value_whole Absent k None of = refl
value_whole Absent k (Some bytes) of = absurd of
value_whole Required k v of = refl
value_whole Optional k v of = refl

each_whole : (P : Rec → Type 0) (f : Rec → Rec) → ((x : Rec) → P x → f x ≡ x) → (xs : Recs) → EachRec P xs → recs_from (map f (recs_in xs)) ≡ xs
each_whole P f h no_recs all = refl
each_whole P f h (recs x xs) all = ap₂ recs (h x all.0) (each_whole P f h xs all.1)

mutual
  pub all_shown : (n : Group) (k : ℕ) (x : Rec) → HasLeaves n → IsOf n x → shown n k every x ≡ x
  all_shown (group s t) k (rec v p) h of = ap₂ rec (value_whole s k v of.0) (part_whole t (k + slot_width s) p h of.1)

  part_whole : (t : Kind) (k : ℕ) (p : RecPart) → KindHasLeaves t → PartIsOf t p → cond (none_read every k (kind_width t)) empty (part_shown t k every p) ≡ p
  part_whole free k empty h of = refl
  part_whole free k (cell c) h of = absurd of
  part_whole free k (fields xs) h of = absurd of
  part_whole free k (items xs) h of = absurd of
  part_whole (scalar q) k empty h of = refl
  part_whole (scalar q) k (cell c) h of = refl
  part_whole (scalar q) k (fields xs) h of = absurd of
  part_whole (scalar q) k (items xs) h of = absurd of
  part_whole (object_of gs) k empty h of = empty_shown (object_of gs) k every (none_read every k (groups_width gs))
  part_whole (object_of gs) k (cell c) h of = absurd of
  part_whole (object_of gs) k (fields xs) h of = there (none_read every k (groups_width gs)) empty _ (fields xs) (some_of_every k (groups_width gs) h.0) (ap fields (fields_whole gs k xs h.1 of))
  part_whole (object_of gs) k (items xs) h of = absurd of
  part_whole (list_of n) k empty h of = empty_shown (list_of n) k every (none_read every k (width n))
  part_whole (list_of n) k (cell c) h of = absurd of
  part_whole (list_of n) k (fields xs) h of = absurd of
  part_whole (list_of n) k (items xs) h of = there (none_read every k (width n)) empty _ (items xs) (some_of_every k (width n) h.0) (ap items (each_whole (IsOf n) (shown n k every) (λ x o. all_shown n k x h.1 o) xs of))

  fields_whole : (gs : Groups) (k : ℕ) (xs : Recs) → GroupsHaveLeaves gs → FieldsAreOf gs xs → fields_shown gs k every xs ≡ xs
  fields_whole no_groups k no_recs h of = refl
  fields_whole no_groups k (recs x xs) h of = absurd of
  fields_whole (field name n gs) k no_recs h of = absurd of
  fields_whole (field name n gs) k (recs x xs) h of = ap₂ recs (all_shown n k x h.0 of.0) (fields_whole gs (k + width n) xs h.1 of.1)

pub row_whole : (o : Bool) (n : Group) (row : RowRec) → HasLeaves n → RowIsOf o n row → row_shown n every row ≡ row
row_whole o n absent h of = refl
row_whole o n (present meta x) h of = ap (λ y. present meta y) (all_shown n 1 x h of)

rows_whole : (o : Bool) (n : Group) (rows : List RowRec) → HasLeaves n → AllByRecursion (RowIsOf o n) rows → map (row_shown n every) rows ≡ rows
rows_whole o n [] h all = refl
rows_whole o n (x ∷ xs) h all = ap₂ (λ y ys. y ∷ ys) (row_whole o n x h all.0) (rows_whole o n xs h all.1)

pub same_rows : (o : Bool) (n : Group) (xs ys : List RowRec) → HasLeaves n → AllByRecursion (RowIsOf o n) xs → AllByRecursion (RowIsOf o n) ys → ((j : ℕ) → is_among j 0 (1 + width n) ≡ true → stripes o n xs j ≡ stripes o n ys j) → xs ≡ ys
same_rows o n xs ys h of of_other same =
    let some = some_of_every 0 (1 + width n) (omega arith) in
    let one : rows_read o n every (stripes o n xs) ≡ Some (map (row_shown n every) xs) = rows_complete o n every (stripes o n xs) xs some of (λ j a y. refl) in
    let other : rows_read o n every (stripes o n xs) ≡ Some (map (row_shown n every) ys) = rows_complete o n every (stripes o n xs) ys some of_other (λ j a y. same j a) in
    let shown_same : map (row_shown n every) xs ≡ map (row_shown n every) ys = cc in
    sym (rows_whole o n xs h of) ∙ (shown_same ∙ rows_whole o n ys h of_other)

-- ---- the nodes of a column

some_leaf : (gs : Groups) → HasField gs → EachField HasEither MayHold gs → 1 ≤ groups_width gs
some_leaf no_groups some h = absurd some
some_leaf (field name n gs) some h = omega (arith, nodes_width n h.0)

mutual
  pub nodes_have_leaves : (n : Group) → AreNodes n → HasLeaves n
  nodes_have_leaves (group s t) h = kind_has_leaves t h.1

  kind_has_leaves : (t : Kind) → EachIn HasEither MayHold t → KindHasLeaves t
  kind_has_leaves free h = tt
  kind_has_leaves (scalar q) h = tt
  kind_has_leaves (object_of gs) h = (some_leaf gs h.0.some h.1, groups_have_leaves gs h.1)
  kind_has_leaves (list_of n) h = (nodes_width n h, nodes_have_leaves n h)

  groups_have_leaves : (gs : Groups) → EachField HasEither MayHold gs → GroupsHaveLeaves gs
  groups_have_leaves no_groups h = tt
  groups_have_leaves (field name n gs) h = (nodes_have_leaves n h.0, groups_have_leaves gs h.1)
