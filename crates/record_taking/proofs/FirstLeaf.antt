-- What the first leaf of a part says: whether the part is there, and whether a list has items.
use Rattle.std.proofs.Common.{◌≡◌, ◌∙◌, refl, sym, ap, ℕ, suc, ◌+◌, ◌<◌, ◌≤◌, Bool, true, false, cond, List, [], ◌∷◌, Option, Some, None, arith}
use Rattle.std.specs.Option.{option_map}
use Rattle.vs_bytes.specs.declared.leaf_columns.Cell.{Cell}
use Rattle.vs_bytes.specs.declared.leaf_columns.Entry.{Entry}
use Rattle.vs_bytes.specs.declared.leaf_columns.PrimKind.{PrimKind}
use Rattle.shred_schema.specs.Cells.{is_of_prim}
use Rattle.shred_schema.specs.Groups.{Group, Kind, free, scalar, object_of, list_of, width, kind_width}
use Rattle.shred_schema.specs.Ranges.{is_among, every}
use Rattle.shred_schema.specs.Recs.{Rec, RecPart, empty, cell, fields, items, Recs, no_recs, recs, recs_from}
use Rattle.shred_schema.proofs.LeafRanges.{among_from}
use Rattle.record_assembly.specs.Cuts.{first_item}
use Rattle.record_assembly.specs.Reading.{is_null, only_cell, items_read, longest, are_nil, are_null, cell_read, with_item, read, part_read, fields_read}
use Rattle.record_assembly.specs.Shown.{part_shown}
use Rattle.record_assembly.proofs.Complete.{begins_at, empty_shown, reaches_more}
use Rattle.record_assembly.proofs.Cutting.{Begins}
use Rattle.record_assembly.proofs.Leaves.{begins, part_begins, part_level}
use Rattle.record_assembly.proofs.Sound.{part_sound, sound}
use Rattle.record_taking.specs.Parts.{list_read}

-- a range of one leaf at least has its first leaf
pub among_here : (k c : ℕ) → 1 ≤ c → is_among k k c ≡ true
among_here k c h = among_from k k c (omega arith) (omega arith)

-- ---- a part that is read is there

cell_there : (q : PrimKind) (o : Option Cell) (p : RecPart) → cell_read q o ≡ Some p → p ≡ empty → ⊥
cell_there q None p h e = cc
cell_there q (Some c) p h e = by (is_of_prim q c) h
  where
    by : (b : Bool) → cond b (Some (cell c)) None ≡ Some p → ⊥
    by true g = let same : cell c ≡ empty = cc in cc
    by false g = cc

fields_there : (o : Option Recs) (p : RecPart) → option_map fields o ≡ Some p → p ≡ empty → ⊥
fields_there None p h e = cc
fields_there (Some xs) p h e = let same : fields xs ≡ empty = cc in cc

items_there : (b : Bool) (o : Option (List Rec)) (p : RecPart) → cond b (Some (items no_recs)) (option_map (λ xs. items (recs_from xs)) o) ≡ Some p → p ≡ empty → ⊥
items_there true o p h e = let same : items no_recs ≡ empty = cc in cc
items_there false None p h e = cc
items_there false (Some xs) p h e = let same : items (recs_from xs) ≡ empty = cc in cc

read_there : (t : Kind) (k r m d : ℕ) (es : ℕ → List Entry) (p : RecPart) → part_read t k every r m d es ≡ Some p → p ≡ empty → ⊥
read_there free k r m d es p h e = cc
read_there (scalar q) k r m d es p h e = cell_there q (only_cell r (d + 1) (es k)) p h e
read_there (object_of gs) k r m d es p h e = fields_there (fields_read gs k every r m (d + 1) es) p h e
read_there (list_of n) k r m d es p h e = items_there (are_null every k (width n) r (d + 1) es) (items_read (λ a fs. read n k every a (m + 1) (d + 2) fs) (are_nil every k (width n)) (m + 1) (suc (longest k (width n) es)) r es) p h e

level_some : (p : RecPart) → (p ≡ empty → ⊥) → 1 ≤ part_level p
level_some empty h = absurd (h refl)
level_some (cell c) h = omega arith
level_some (fields xs) h = omega arith
level_some (items no_recs) h = omega arith
level_some (items (recs x xs)) h = omega arith

-- a part that is there isn't said to be absent by its first leaf
pub part_begun : (t : Kind) (k r m d : ℕ) (es : ℕ → List Entry) (p : RecPart) → 1 ≤ kind_width t → part_read t k every r m d es ≡ Some p → is_null r d (es k) ≡ false
part_begun t k r m d es p some h =
    let f = part_sound t k every r m d es p h in
    let a = among_here k (kind_width t) some in
    let there : f.one ≡ empty → ⊥ = λ (e : f.one ≡ empty). read_there t k r m d es p h (sym f.is ∙ (ap (part_shown t k every) e ∙ empty_shown t k every false)) in
    let level = level_some f.one there in
    reaches_more r d m (d + part_level f.one) (es k) (omega (arith, level)) (begins_at r m (d + part_level f.one) (es k) _ (f.agree k (a, refl)) (part_begins t k r m d f.one k f.of a))

-- so nothing is read where the first leaf says that the part is absent
pub part_not_begun : (t : Kind) (k r m d : ℕ) (es : ℕ → List Entry) → 1 ≤ kind_width t → is_null r d (es k) ≡ true → part_read t k every r m d es ≡ None
part_not_begun t k r m d es some null = by (part_read t k every r m d es) refl
  where
    by : (o : Option RecPart) → part_read t k every r m d es ≡ o → o ≡ None
    by None e = refl
    by (Some p) e = let no : true ≡ false = sym null ∙ part_begun t k r m d es p some e in cc

-- ---- the first item of a list

-- how a record begins that was read
pub read_begins : (n : Group) (k r m d : ℕ) (es : ℕ → List Entry) (q : Rec) → read n k every r m d es ≡ Some q → (j : ℕ) → is_among j k (width n) ≡ true → Begins r m d (es j)
read_begins n k r m d es q h j a =
    let f = sound n k every r m d es q h in
    begins_at r m d (es j) _ (f.agree j (a, refl)) (begins n k r m d f.one j f.of a)

item_reaches : (r d m n c : ℕ) (es : List Entry) → d < c → Begins r n c (first_item m es) → is_null r d es ≡ false
item_reaches r d m n c [] h b = refl
item_reaches r d m n c (e ∷ []) h b = reaches_more r d n c (e ∷ []) h b
item_reaches r d m n c (e ∷ f ∷ es) h b = refl

first_some : {A : Type 0} (o : Option A) (l : Option (List A)) (all : List A) → with_item o l ≡ Some all → (o ≡ None → ⊥)
first_some None l all h e = cc
first_some (Some x) l all h e = cc

-- a list that has items isn't said to be empty by its first leaf
pub list_begun : (n : Group) (k r m d : ℕ) (es : ℕ → List Entry) (qs : List Rec) → 1 ≤ width n → list_read n k r m d es ≡ Some qs → is_null r (d + 1) (es k) ≡ false
unfolding list_read
list_begun n k r m d es qs some h = by (read n k every r (m + 1) (d + 2) (λ j. first_item (m + 1) (es j))) refl
  where
    by : (o : Option Rec) → read n k every r (m + 1) (d + 2) (λ j. first_item (m + 1) (es j)) ≡ o → is_null r (d + 1) (es k) ≡ false
    by None e = absurd (first_some _ _ qs h e)
    by (Some q) e = item_reaches r (d + 1) (m + 1) (m + 1) (d + 2) (es k) (omega arith) (read_begins n k r (m + 1) (d + 2) (λ j. first_item (m + 1) (es j)) q e k (among_here k (width n) some))

pub list_not_begun : (n : Group) (k r m d : ℕ) (es : ℕ → List Entry) → 1 ≤ width n → is_null r (d + 1) (es k) ≡ true → list_read n k r m d es ≡ None
list_not_begun n k r m d es some null = by (list_read n k r m d es) refl
  where
    by : (o : Option (List Rec)) → list_read n k r m d es ≡ o → o ≡ None
    by None e = refl
    by (Some qs) e = let no : true ≡ false = sym null ∙ list_begun n k r m d es qs some e in cc
