-- The entries of rows in a leaf are entries of this leaf.
use Rattle.std.proofs.Common.{◌≡◌, refl, sym, ap, subst, ℕ, zero, suc, ◌+◌, ◌<◌, ◌≤◌, ◌==◌, Bool, true, false, List, [], ◌∷◌, ◌++◌, length, length-append, get_or, Option, Some, None, arith}
use Rattle.std.specs.List.{All, AllByRecursion, flat_map}
use Rattle.std.proofs.lemmas.Bool.Decides.{nat_tests}
use Rattle.std.proofs.lemmas.List.Elements.{All-nil, All-cons, All-append}
use Rattle.vs_bytes.specs.declared.leaf_columns.Cell.{Cell}
use Rattle.vs_bytes.specs.declared.leaf_columns.Cell.TheVariants as leaf_cell
use Rattle.vs_bytes.specs.declared.leaf_columns.Entry.{Entry}
use Rattle.vs_bytes.specs.declared.leaf_columns.Leaf.{Leaf}
use Rattle.vs_bytes.specs.declared.leaf_columns.PrimKind.{PrimKind}
use Rattle.vs_bytes.specs.declared.leaf_columns.PrimKind.TheVariants as prim
use Rattle.plain_values.specs.Written.{IsCell}
use Rattle.pages.specs.Entries.{HasDue, IsEntry}
use Rattle.shred_schema.specs.declared.nodes.Slot.{Slot}
use Rattle.shred_schema.specs.declared.nodes.Slot.TheVariants.{Absent, Required, Optional}
use Rattle.shred_schema.specs.Groups.{Group, group, Kind, free, scalar, object_of, list_of, Groups, no_groups, field, slot_width, width, kind_width, groups_width}
use Rattle.shred_schema.specs.Kinds.{type_written}
use Rattle.shred_schema.specs.Leaves.{leaf, value_leaves, leaves_of, kind_leaves, groups_leaves, column_leaves}
use Rattle.shred_schema.specs.Ranges.{is_among}
use Rattle.shred_schema.specs.Recs.{Rec, rec, RecPart, empty, cell, fields, items, Recs, no_recs, recs, recs_in, EachRec, RowRec, absent, present}
use Rattle.shred_schema.specs.Shapes.{Stands, IsOf, PartIsOf, FieldsAreOf, RowIsOf}
use Rattle.shred_schema.proofs.LeafRanges.{among_first, among_rest}
use Rattle.shred_schema.proofs.NodeFacts.{leaf_count, column_leaf_count}
use Rattle.level_striping.specs.Entries.{in_leaf, null_at, cell_at, value_entries, cell_entries, entries, part_entries, fields_entries, top_level, row_entries, stripes}
use Rattle.level_striping.proofs.OwnLeaves.{in_leaf_true, nil_left, nil_right, outside, value_alone, part_alone, field_alone, fields_alone}
use Rattle.striping_laws.specs.Fitting.{ValueFits, FitsLeaves, PartFitsLeaves, FieldsFitLeaves, RowFitsLeaves}

-- ---- families of entries, and the leaves that they are of

-- the entries of each leaf, the first of which has number k, are of this leaf
abbrev pub AreOfLeaves : ℕ → List Leaf → (ℕ → List Entry) → Type 0
AreOfLeaves k [] es = Unit {0}
AreOfLeaves k (l ∷ ls) es = All (IsEntry l) (es k) × AreOfLeaves (k + 1) ls es

of_same : (k : ℕ) (ls : List Leaf) (es fs : ℕ → List Entry) → ((j : ℕ) → is_among j k (length ls) ≡ true → es j ≡ fs j) → AreOfLeaves k ls fs → AreOfLeaves k ls es
of_same k [] es fs same h = tt
of_same k (l ∷ ls) es fs same h = (subst (All (IsEntry l)) (sym (same k (among_first k (length ls)))) h.0, of_same (k + 1) ls es fs (λ j a. same j (among_rest j k (length ls) a)) h.1)

of_none : (k : ℕ) (ls : List Leaf) → AreOfLeaves k ls (λ j. [])
of_none k [] = tt
of_none k (l ∷ ls) = (All-nil (IsEntry l), of_none (k + 1) ls)

of_both : (k : ℕ) (ls : List Leaf) (es fs : ℕ → List Entry) → AreOfLeaves k ls es → AreOfLeaves k ls fs → AreOfLeaves k ls (λ j. es j ++ fs j)
of_both k [] es fs h g = tt
of_both k (l ∷ ls) es fs h g = (All-append (IsEntry l) (es k) (fs k) h.0 g.0, of_both (k + 1) ls es fs h.1 g.1)

of_flat : {A : Type 0} (k : ℕ) (ls : List Leaf) (g : A → ℕ → List Entry) (xs : List A) → AllByRecursion (λ x. AreOfLeaves k ls (g x)) xs → AreOfLeaves k ls (λ j. flat_map (λ x. g x j) xs)
of_flat k ls g [] h = of_none k ls
of_flat k ls g (x ∷ xs) h = of_both k ls (g x) (λ j. flat_map (λ y. g y j) xs) h.0 (of_flat k ls g xs h.1)

-- leaves of two parts
of_parts : (k : ℕ) (ls ms : List Leaf) (es : ℕ → List Entry) → AreOfLeaves k ls es → AreOfLeaves (k + length ls) ms es → AreOfLeaves k (ls ++ ms) es
of_parts k [] ms es h g = let first : k + 0 ≡ k = omega arith in subst (λ i. AreOfLeaves i ms es) first g
of_parts k (l ∷ ls) ms es h g = let next : k + suc (length ls) ≡ (k + 1) + length ls = omega arith in (h.0, of_parts (k + 1) ls ms es h.1 (subst (λ i. AreOfLeaves i ms es) next g))

-- the entries of one leaf
pub of_one : (k : ℕ) (ls : List Leaf) (es : ℕ → List Entry) (i : ℕ) (other : Leaf) → AreOfLeaves k ls es → i < length ls → All (IsEntry (get_or ls i other)) (es (k + i))
of_one k [] es i other h inside = absurd (omega (arith, inside))
of_one k (l ∷ ls) es zero other h inside = let first : k ≡ k + 0 = omega arith in subst (λ j. All (IsEntry l) (es j)) first h.0
of_one k (l ∷ ls) es (suc i) other h inside = let next : (k + 1) + i ≡ k + suc i = omega arith in subst (λ j. All (IsEntry (get_or ls i other)) (es j)) next (of_one (k + 1) ls es i other h.1 (omega (arith, inside)))

-- ---- leaves inside `r` lists and at definition level d

pub record IsInside (r d : ℕ) (l : Leaf) : Type 0 where
  pub rep : r ≤ l.rep
  pub def : d ≤ l.def

abbrev AreInside : ℕ → ℕ → List Leaf → Type 0
AreInside r d ls = AllByRecursion (IsInside r d) ls

inside_both : (r d : ℕ) (ls ms : List Leaf) → AreInside r d ls → AreInside r d ms → AreInside r d (ls ++ ms)
inside_both r d [] ms h g = g
inside_both r d (l ∷ ls) ms h g = (h.0, inside_both r d ls ms h.1 g)

inside_more : (r d q e : ℕ) (ls : List Leaf) → q ≤ r → e ≤ d → AreInside r d ls → AreInside q e ls
inside_more r d q e [] h g is = tt
inside_more r d q e (l ∷ ls) h g is = (record { rep = omega (arith, h, is.0.rep); def = omega (arith, g, is.0.def) }, inside_more r d q e ls h g is.1)

value_inside : (s : Slot) (r d : ℕ) → AreInside r d (value_leaves s r d)
value_inside Absent r d = tt
value_inside Required r d = (record { rep = omega arith; def = omega arith }, tt)
value_inside Optional r d = (record { rep = omega arith; def = omega arith }, tt)

mutual
  node_inside : (n : Group) (r d : ℕ) → AreInside r d (leaves_of n r d)
  node_inside (group s t) r d = inside_both r d (value_leaves s r d) (kind_leaves t r d) (value_inside s r d) (inside_more r (d + 1) r d (kind_leaves t r d) (omega arith) (omega arith) (kind_inside t r d))

  -- a typed part is optional
  kind_inside : (t : Kind) (r d : ℕ) → AreInside r (d + 1) (kind_leaves t r d)
  kind_inside free r d = tt
  kind_inside (scalar q) r d = (record { rep = omega arith; def = omega arith }, tt)
  kind_inside (object_of gs) r d = groups_inside gs r (d + 1)
  kind_inside (list_of n) r d = inside_more (r + 1) (d + 2) r (d + 1) (leaves_of n (r + 1) (d + 2)) (omega arith) (omega arith) (node_inside n (r + 1) (d + 2))

  groups_inside : (gs : Groups) (r d : ℕ) → AreInside r d (groups_leaves gs r d)
  groups_inside no_groups r d = tt
  groups_inside (field name n gs) r d = inside_both r d (leaves_of n r d) (groups_leaves gs r d) (node_inside n r d) (groups_inside gs r d)

kind_leaf_count : (t : Kind) (r d : ℕ) → length (kind_leaves t r d) ≡ kind_width t
kind_leaf_count t r d = omega (arith, leaf_count (group Absent t) r d)

groups_leaf_count : (gs : Groups) (r d : ℕ) → length (groups_leaves gs r d) ≡ groups_width gs
groups_leaf_count no_groups r d = refl
groups_leaf_count (field name n gs) r d = omega (arith, length-append (leaves_of n r d) (groups_leaves gs r d), leaf_count n r d, groups_leaf_count gs r d)

slot_leaf_count : (s : Slot) (r d : ℕ) → length (value_leaves s r d) ≡ slot_width s
slot_leaf_count Absent r d = refl
slot_leaf_count Required r d = refl
slot_leaf_count Optional r d = refl

-- ---- one entry

no_value_due : (P : Cell → Type 0) (d e : ℕ) → d < e → HasDue P (d == e) None
no_value_due P d e h = let differ : (d == e) ≡ false = grind (arith, nat_tests) in rw differ tt

value_due : (P : Cell → Type 0) (d : ℕ) (c : Cell) → P c → HasDue P (d == d) (Some c)
value_due P d c h = let same : (d == d) ≡ true = grind (arith, nat_tests) in rw same h

null_is : (l : Leaf) (r d : ℕ) → IsInside r (d + 1) l → All (IsEntry l) (null_at r d)
null_is l r d is = All-cons (IsEntry l) _ [] (record { rep = is.rep; def = omega (arith, is.def); value = no_value_due (IsCell l.phys l.prim) d l.def (omega (arith, is.def)) }) (All-nil (IsEntry l))

cell_is : (q : PrimKind) (r m d : ℕ) (c : Cell) → r ≤ m → IsCell (type_written q) q c → All (IsEntry (leaf q m d)) (cell_at r d c)
cell_is q r m d c h is = All-cons (IsEntry (leaf q m d)) _ [] (record { rep = h; def = omega arith; value = value_due (IsCell (type_written q) q) d c is }) (All-nil (IsEntry (leaf q m d)))

-- entries without value in each leaf
nulls_are : (k r d : ℕ) (ls : List Leaf) (es : ℕ → List Entry) → AreInside r (d + 1) ls → ((j : ℕ) → is_among j k (length ls) ≡ true → es j ≡ null_at r d) → AreOfLeaves k ls es
nulls_are k r d [] es is same = tt
nulls_are k r d (l ∷ ls) es is same =
    (subst (All (IsEntry l)) (sym (same k (among_first k (length ls)))) (null_is l r d is.0), nulls_are (k + 1) r d ls es is.1 (λ j a. same j (among_rest j k (length ls) a)))

-- the same of a part that isn't there
absent_are : (t : Kind) (k r m d : ℕ) (e : ℕ) → r ≤ m → e ≤ d → (es : ℕ → List Entry) → ((j : ℕ) → is_among j k (kind_width t) ≡ true → es j ≡ null_at r e) → AreOfLeaves k (kind_leaves t m d) es
absent_are t k r m d e h g es same =
    nulls_are k r e (kind_leaves t m d) es (inside_more m (d + 1) r (e + 1) (kind_leaves t m d) h (omega (arith, g)) (kind_inside t m d))
    (λ j a. same j (subst (λ c. is_among j k c ≡ true) (kind_leaf_count t m d) a))

-- ---- values and cells

value_are : (s : Slot) (k r m d : ℕ) (v : Option (List ℕ)) → r ≤ m → Stands s v → ValueFits v → AreOfLeaves k (value_leaves s m d) (λ j. in_leaf (j == k) (value_entries s r d v))
value_are Absent k r m d v h st fit = tt
value_are Required k r m d None h st fit = absurd st
value_are Required k r m d (Some bytes) h st fit = let here : (k == k) ≡ true = grind (arith, nat_tests) in (rw here (cell_is prim.Raw r m d (leaf_cell.Bytes bytes) h fit), tt)
value_are Optional k r m d None h st fit = let here : (k == k) ≡ true = grind (arith, nat_tests) in (rw here (null_is (leaf prim.Raw m (d + 1)) r d (record { rep = h; def = omega arith })), tt)
value_are Optional k r m d (Some bytes) h st fit = let here : (k == k) ≡ true = grind (arith, nat_tests) in (rw here (cell_is prim.Raw r m (d + 1) (leaf_cell.Bytes bytes) h fit), tt)

cell_part_is : (q : PrimKind) (r m d : ℕ) (p : RecPart) → r ≤ m → PartIsOf (scalar q) p → PartFitsLeaves (scalar q) p → All (IsEntry (leaf q m (d + 1))) (cell_entries r d p)
cell_part_is q r m d empty h of fit = null_is (leaf q m (d + 1)) r d (record { rep = h; def = omega arith })
cell_part_is q r m d (cell c) h of fit = cell_is q r m (d + 1) c h fit
cell_part_is q r m d (fields xs) h of fit = absurd of
cell_part_is q r m d (items xs) h of fit = absurd of

-- ---- records

each_item : (n : Group) (k m d : ℕ) → ((x : Rec) → IsOf n x → FitsLeaves n x → AreOfLeaves k (leaves_of n (m + 1) (d + 2)) (λ j. entries n k (m + 1) (m + 1) (d + 2) x j)) → (xs : Recs) → EachRec (IsOf n) xs → EachRec (FitsLeaves n) xs →
    AllByRecursion (λ x. AreOfLeaves k (leaves_of n (m + 1) (d + 2)) (λ j. entries n k (m + 1) (m + 1) (d + 2) x j)) (recs_in xs)
each_item n k m d f no_recs of fit = tt
each_item n k m d f (recs x xs) of fit = (f x of.0 fit.0, each_item n k m d f xs of.1 fit.1)

mutual
  pub record_are : (n : Group) (k r m d : ℕ) (x : Rec) → r ≤ m → IsOf n x → FitsLeaves n x → AreOfLeaves k (leaves_of n m d) (entries n k r m d x)
  record_are (group s t) k r m d (rec v p) h of fit =
      of_parts k (value_leaves s m d) (kind_leaves t m d) (entries (group s t) k r m d (rec v p))
      (of_same k (value_leaves s m d) _ (λ j. in_leaf (j == k) (value_entries s r d v)) (λ j a. value_alone s t k r m d v p j (subst (λ c. is_among j k c ≡ true) (slot_leaf_count s m d) a)) (value_are s k r m d v h of.0 fit.0))
      (subst (λ i. AreOfLeaves i (kind_leaves t m d) (entries (group s t) k r m d (rec v p))) (ap (λ c. k + c) (sym (slot_leaf_count s m d)))
      (of_same (k + slot_width s) (kind_leaves t m d) _ (part_entries t (k + slot_width s) r m d p) (λ j a. part_alone s t k r m d v p j (subst (λ c. is_among j (k + slot_width s) c ≡ true) (kind_leaf_count t m d) a))
      (part_are t (k + slot_width s) r m d p h of.1 fit.1)))

  part_are : (t : Kind) (k r m d : ℕ) (p : RecPart) → r ≤ m → PartIsOf t p → PartFitsLeaves t p → AreOfLeaves k (kind_leaves t m d) (part_entries t k r m d p)
  part_are free k r m d p h of fit = tt
  part_are (scalar q) k r m d p h of fit = let here : (k == k) ≡ true = grind (arith, nat_tests) in (rw here (cell_part_is q r m d p h of fit), tt)
  part_are (object_of gs) k r m d (fields xs) h of fit = fields_are gs k r m (d + 1) xs h of fit
  part_are (object_of gs) k r m d empty h of fit = absent_are (object_of gs) k r m d d h (omega arith) _ (λ j a. in_leaf_true _ (null_at r d) a)
  part_are (object_of gs) k r m d (cell c) h of fit = absurd of
  part_are (object_of gs) k r m d (items xs) h of fit = absurd of
  part_are (list_of n) k r m d empty h of fit = absent_are (list_of n) k r m d d h (omega arith) _ (λ j a. in_leaf_true _ (null_at r d) a)
  part_are (list_of n) k r m d (cell c) h of fit = absurd of
  part_are (list_of n) k r m d (fields xs) h of fit = absurd of
  part_are (list_of n) k r m d (items no_recs) h of fit =
      nulls_are k r (d + 1) (leaves_of n (m + 1) (d + 2)) _ (inside_more (m + 1) (d + 2) r ((d + 1) + 1) (leaves_of n (m + 1) (d + 2)) (omega (arith, h)) (omega arith) (node_inside n (m + 1) (d + 2)))
      (λ j a. in_leaf_true _ (null_at r (d + 1)) (subst (λ c. is_among j k c ≡ true) (leaf_count n (m + 1) (d + 2)) a))
  part_are (list_of n) k r m d (items (recs x xs)) h of fit =
      of_both k (leaves_of n (m + 1) (d + 2)) (λ j. entries n k r (m + 1) (d + 2) x j) (λ j. flat_map (λ y. entries n k (m + 1) (m + 1) (d + 2) y j) (recs_in xs))
      (record_are n k r (m + 1) (d + 2) x (omega (arith, h)) of.0 fit.0)
      (of_flat k (leaves_of n (m + 1) (d + 2)) (λ y j. entries n k (m + 1) (m + 1) (d + 2) y j) (recs_in xs)
      (each_item n k m d (λ y o f. record_are n k (m + 1) (m + 1) (d + 2) y (omega arith) o f) xs of.1 fit.1))

  fields_are : (gs : Groups) (k r m d : ℕ) (xs : Recs) → r ≤ m → FieldsAreOf gs xs → FieldsFitLeaves gs xs → AreOfLeaves k (groups_leaves gs m d) (fields_entries gs k r m d xs)
  fields_are no_groups k r m d xs h of fit = tt
  fields_are (field name n gs) k r m d no_recs h of fit = absurd of
  fields_are (field name n gs) k r m d (recs x xs) h of fit =
      of_parts k (leaves_of n m d) (groups_leaves gs m d) (fields_entries (field name n gs) k r m d (recs x xs))
      (of_same k (leaves_of n m d) _ (entries n k r m d x) (λ j a. field_alone name n gs k r m d x xs j (subst (λ c. is_among j k c ≡ true) (leaf_count n m d) a)) (record_are n k r m d x h of.0 fit.0))
      (subst (λ i. AreOfLeaves i (groups_leaves gs m d) (fields_entries (field name n gs) k r m d (recs x xs))) (ap (λ c. k + c) (sym (leaf_count n m d)))
      (of_same (k + width n) (groups_leaves gs m d) _ (fields_entries gs (k + width n) r m d xs) (λ j a. fields_alone name n gs k r m d x xs j (subst (λ c. is_among j (k + width n) c ≡ true) (groups_leaf_count gs m d) a))
      (fields_are gs (k + width n) r m d xs h of.1 fit.1)))

-- ---- rows

not_first : (j c : ℕ) → is_among j 1 c ≡ true → (j == 0) ≡ false
not_first j c h = grind (arith, nat_tests)

row_are : (optional : Bool) (n : Group) (row : RowRec) → RowIsOf optional n row → RowFitsLeaves n row → AreOfLeaves 0 (column_leaves optional n) (row_entries optional n 0 row)
row_are false n absent of fit = cc
row_are true n absent of fit =
    nulls_are 0 0 0 (column_leaves true n) _ (record { rep = omega arith; def = omega arith }, node_inside n 0 1)
    (λ j a. in_leaf_true _ (null_at 0 0) (subst (λ c. is_among j 0 c ≡ true) (column_leaf_count true n) a))
row_are optional n (present meta x) of fit =
    let d = top_level optional in
    let first : row_entries optional n 0 (present meta x) 0 ≡ cell_at 0 d (leaf_cell.Bytes meta) = nil_right _ _ (outside n 1 0 0 d x 0 (grind (arith, nat_tests))) in (
      subst (All (IsEntry (leaf prim.Raw 0 d))) (sym first) (cell_is prim.Raw 0 0 d (leaf_cell.Bytes meta) (omega arith) fit.0),
      of_same 1 (leaves_of n 0 d) _ (entries n 1 0 0 d x) (λ j a. nil_left _ _ (ap (λ b. in_leaf b (cell_at 0 d (leaf_cell.Bytes meta))) (not_first j _ a))) (record_are n 1 0 0 d x (omega arith) of fit.1),
    )

each_row : (optional : Bool) (n : Group) (rows : List RowRec) → AllByRecursion (RowIsOf optional n) rows → AllByRecursion (RowFitsLeaves n) rows → AllByRecursion (λ row. AreOfLeaves 0 (column_leaves optional n) (λ j. row_entries optional n 0 row j)) rows
each_row optional n [] of fit = tt
each_row optional n (row ∷ rows) of fit = (row_are optional n row of.0 fit.0, each_row optional n rows of.1 fit.1)

pub leaf_entries : (optional : Bool) (n : Group) (rows : List RowRec) (j : ℕ) (other : Leaf) → AllByRecursion (RowIsOf optional n) rows → AllByRecursion (RowFitsLeaves n) rows → j < length (column_leaves optional n) → All (IsEntry (get_or (column_leaves optional n) j other)) (stripes optional n rows j)
leaf_entries optional n rows j other of fit inside =
    let place : 0 + j ≡ j = omega arith in
    subst (λ i. All (IsEntry (get_or (column_leaves optional n) j other)) (stripes optional n rows i)) place
    (of_one 0 (column_leaves optional n) (stripes optional n rows) j other (of_flat 0 (column_leaves optional n) (λ row i. row_entries optional n 0 row i) rows (each_row optional n rows of fit)) inside)
