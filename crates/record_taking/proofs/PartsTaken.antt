-- Parts that are taken one after the other, joined to records and fields.
use Rattle.std.proofs.Common.{◌≡◌, ◌∙◌, refl, sym, ap, ap₂, subst, ℕ, zero, suc, ◌+◌, ◌<◌, ◌≤◌, Bool, true, false, cond, List, [], ◌∷◌, ◌++◌, length, map, drop, get_or, Option, Some, None, Result, Err, zero-add, add-zero, arith}
use Rattle.std.specs.Option.{option_map}
use Rattle.std.proofs.lemmas.List.{map-append}
use Rattle.vs_bytes.specs.declared.leaf_columns.Entry.{Entry}
use Rattle.shred_schema.specs.declared.nodes.Slot.{Slot}
use Rattle.shred_schema.specs.declared.nodes.Slot.TheVariants.{Absent, Required, Optional}
use Rattle.shred_schema.specs.declared.nodes.Node.{Node}
use Rattle.shred_schema.specs.declared.records.Record.{Record}
use Rattle.shred_schema.specs.Groups.{Group, group, Kind, free, scalar, object_of, list_of, groups_from, slot_width, width, kind_width, groups_width, height, groups_height}
use Rattle.shred_schema.specs.Lawful.{HasLeaves, KindHasLeaves, GroupsHaveLeaves}
use Rattle.shred_schema.specs.Ranges.{is_among, every}
use Rattle.shred_schema.specs.Recs.{Rec, rec, RecPart, empty, items, Recs, no_recs, recs, recs_from}
use Rattle.shred_schema.specs.Views.{group_of, named, rec_of}
use Rattle.shred_schema.proofs.Viewed.{fields_at, fields_end}
use Rattle.record_assembly.specs.Laws.{Have}
use Rattle.record_assembly.specs.Reading.{is_null, value_read, with_part, with_field, are_null, read, part_read, fields_read}
use Rattle.record_assembly.proofs.Same.{read_same, fields_same}
use Rattle.column_assembly.specs.Leaves.{heads, Passed}
use Rattle.column_assembly.proofs.Passing.{passed_none}
use Rattle.vs_bytes.specs.declared.refused.Absent.{Absent as Nothing}
use Rattle.vs_bytes.specs.declared.refused.Refused.{Refused}
use Rattle.vs_bytes.specs.declared.refused.Refused.TheVariants.{Fault, NoMemory}
use Rattle.vs_bytes.specs.Outcome.{Reads}
use Rattle.record_taking.specs.Parts.{Put, Puts, is_bare, is_free, typed_read, list_read, items_of}
use Rattle.record_taking.proofs.FirstLeaf.{part_not_begun, list_not_begun}
use Rattle.record_taking.proofs.Joined.{passed_end, untouched}

-- ---- a record: its value and its typed part

same_typed : (x y : Option RecPart) → with_part (Some None) x ≡ with_part (Some None) y → x ≡ y
same_typed None None h = refl
same_typed None (Some q) h = cc
same_typed (Some p) None h = cc
same_typed (Some p) (Some q) h = let same : p ≡ q = cc in ap Some same

pub typed_same : (t : Kind) (k r m d : ℕ) (es fs : ℕ → List Entry) → Have every k (kind_width t) es fs → typed_read t k r m d es ≡ typed_read t k r m d fs
typed_same t k r m d es fs same =
    let whole : Have every k (width (group Absent t)) es fs = λ j a y. same j (subst (λ (c : ℕ). is_among j k c ≡ true) (zero-add (kind_width t)) a) y in
    subst (λ (i : ℕ). typed_read t i r m d es ≡ typed_read t i r m d fs) (add-zero k) (same_typed (typed_read t (k + 0) r m d es) (typed_read t (k + 0) r m d fs) (read_same (group Absent t) k every r m d es fs whole))

pub record_read : (s : Slot) (t : Kind) (k r m d : ℕ) (a b : List (List Entry)) (v : Option (List ℕ)) (o : Option RecPart) → value_read s true r d (heads m a k) ≡ Some v → Passed a b k (slot_width s) m → typed_read t (k + slot_width s) r m d (heads m b) ≡ o → read (group s t) k every r m d (heads m a) ≡ with_part (Some v) o
record_read s t k r m d a b v o value p typed = ap₂ with_part value (typed_same t (k + slot_width s) r m d (heads m a) (heads m b) (untouched a b k (slot_width s) (kind_width t) m m p) ∙ typed)

pub value_missing : (s : Slot) (t : Kind) (k r m d : ℕ) (es : ℕ → List Entry) → value_read s true r d (es k) ≡ None → read (group s t) k every r m d es ≡ None
value_missing s t k r m d es value = ap (λ v. with_part v (typed_read t (k + slot_width s) r m d es)) value

-- ---- a typed part that is there or not

pub typed_there : (t : Kind) (k r m d : ℕ) (es : ℕ → List Entry) → 1 ≤ kind_width t → is_null r d (es k) ≡ false → typed_read t k r m d es ≡ part_read t k every r m d es
typed_there t k r m d es some there = ap (λ b. cond b (Some empty) (part_read t k every r m d es)) (fails (kind_width t) some)
  where
    fails : (c : ℕ) → 1 ≤ c → are_null every k c r d es ≡ false
    fails zero h = absurd (omega (arith, h))
    fails (suc c) h = rw there refl

pub typed_absent : (t : Kind) (k r m d : ℕ) (es : ℕ → List Entry) → are_null every k (kind_width t) r d es ≡ true → typed_read t k r m d es ≡ Some empty
typed_absent t k r m d es e = ap (λ b. cond b (Some empty) (part_read t k every r m d es)) e

pub typed_broken : (t : Kind) (k r m d : ℕ) (es : ℕ → List Entry) → 1 ≤ kind_width t → is_null r d (es k) ≡ true → are_null every k (kind_width t) r d es ≡ false → typed_read t k r m d es ≡ None
typed_broken t k r m d es some null rest = ap (λ b. cond b (Some empty) (part_read t k every r m d es)) rest ∙ part_not_begun t k r m d es some null

-- a typed part has a leaf
pub kind_some : (t : Kind) → is_free t ≡ false → KindHasLeaves t → 1 ≤ kind_width t
kind_some free h leaves = cc
kind_some (scalar q) h leaves = omega arith
kind_some (object_of gs) h leaves = leaves.0
kind_some (list_of n) h leaves = leaves.0

-- ---- a list

pub items_there : (n : Group) (k r m d : ℕ) (es : ℕ → List Entry) → 1 ≤ width n → is_null r (d + 1) (es k) ≡ false → items_of n k r m d es ≡ list_read n k r m d es
items_there n k r m d es some there = ap (λ b. cond b (Some []) (list_read n k r m d es)) (fails (width n) some)
  where
    fails : (c : ℕ) → 1 ≤ c → are_null every k c r (d + 1) es ≡ false
    fails zero h = absurd (omega (arith, h))
    fails (suc c) h = rw there refl

pub items_none : (n : Group) (k r m d : ℕ) (es : ℕ → List Entry) → are_null every k (width n) r (d + 1) es ≡ true → items_of n k r m d es ≡ Some []
items_none n k r m d es e = ap (λ b. cond b (Some []) (list_read n k r m d es)) e

pub items_broken : (n : Group) (k r m d : ℕ) (es : ℕ → List Entry) → 1 ≤ width n → is_null r (d + 1) (es k) ≡ true → are_null every k (width n) r (d + 1) es ≡ false → items_of n k r m d es ≡ None
items_broken n k r m d es some null rest = ap (λ b. cond b (Some []) (list_read n k r m d es)) rest ∙ list_not_begun n k r m d es some null

abbrev pub as_items : List Rec → RecPart
as_items xs = items (recs_from xs)

pub list_part : (n : Group) (k r m d : ℕ) (es : ℕ → List Entry) → part_read (list_of n) k every r m d es ≡ option_map as_items (items_of n k r m d es)
unfolding list_read
list_part n k r m d es = by (are_null every k (width n) r (d + 1) es) _
  where
    by : (b : Bool) (o : Option (List Rec)) → cond b (Some (items no_recs)) (option_map (λ xs. items (recs_from xs)) o) ≡ option_map as_items (cond b (Some []) o)
    by true o = refl
    by false o = refl

-- ---- the fields of an object

-- records in front of others
abbrev pub before : List Rec → Recs → Recs
before [] rest = rest
before (x ∷ xs) rest = recs x (before xs rest)

pub before_more : (xs : List Rec) (x : Rec) (rest : Recs) → before (xs ++ x ∷ []) rest ≡ before xs (recs x rest)
before_more [] x rest = refl
before_more (y ∷ ys) x rest = ap (recs y) (before_more ys x rest)

pub before_none : (xs : List Rec) → before xs no_recs ≡ recs_from xs
before_none [] = refl
before_none (x ∷ xs) = ap (recs x) (before_none xs)

-- what is read of the fields that are left, after the records of those in front
abbrev pub fields_left : List Record → List (List ℕ × Node) → ℕ → ℕ → ℕ → ℕ → (ℕ → List Entry) → Option Recs
fields_left taken left k r m d es = option_map (λ rest. before (map rec_of taken) rest) (fields_read (groups_from (map named left)) k every r m d es)

field_next : (fs : List (List ℕ × Node)) (i : ℕ) (f : List ℕ × Node) (k r m d : ℕ) (es : ℕ → List Entry) → i < length fs → fields_read (groups_from (map named (drop i fs))) k every r m d es ≡ with_field (read (group_of (get_or fs i f).1) k every r m d es) (fields_read (groups_from (map named (drop (i + 1) fs))) (k + width (group_of (get_or fs i f).1)) every r m d es)
field_next fs i f k r m d es h = ap (λ gs. fields_read gs k every r m d es) (fields_at fs i f f h)

taken_then : (xs : List Record) (x : Record) (o : Option Recs) → option_map (λ rest. before (map rec_of (xs ++ x ∷ [])) rest) o ≡ option_map (λ rest. before (map rec_of xs) rest) (with_field (Some (rec_of x)) o)
taken_then xs x None = refl
taken_then xs x (Some rest) = ap Some (ap (λ ys. before ys rest) (map-append rec_of xs (x ∷ [])) ∙ before_more (map rec_of xs) (rec_of x) rest)

pub field_taken : (fs : List (List ℕ × Node)) (i : ℕ) (f : List ℕ × Node) (xs ys : List Record) (x : Record) (a b : List (List Entry)) (k r m d : ℕ) (whole : Option Recs) → i < length fs → ys ≡ xs ++ x ∷ []
    → read (group_of (get_or fs i f).1) k every r m d (heads m a) ≡ Some (rec_of x) → Passed a b k (width (group_of (get_or fs i f).1)) m
    → fields_left xs (drop i fs) k r m d (heads m a) ≡ whole → fields_left ys (drop (i + 1) fs) (k + width (group_of (get_or fs i f).1)) r m d (heads m b) ≡ whole
field_taken fs i f xs ys x a b k r m d whole h made is p e =
    let w = width (group_of (get_or fs i f).1) in
    let rest = groups_from (map named (drop (i + 1) fs)) in
    let same = fields_same rest (k + w) every r m d (heads m a) (heads m b) (untouched a b k w (groups_width rest) m m p) in
    ap (λ zs. option_map (λ more. before (map rec_of zs) more) (fields_read rest (k + w) every r m d (heads m b))) made
    ∙ (taken_then xs x (fields_read rest (k + w) every r m d (heads m b))
    ∙ (ap (λ o. option_map (λ more. before (map rec_of xs) more) (with_field (Some (rec_of x)) o)) (sym same)
    ∙ (ap (λ o. option_map (λ more. before (map rec_of xs) more) (with_field o (fields_read rest (k + w) every r m d (heads m a)))) (sym is)
    ∙ (ap (λ o. option_map (λ more. before (map rec_of xs) more) o) (sym (field_next fs i f k r m d (heads m a) h)) ∙ e))))

-- a field that is neither value nor typed part
bare_free : (t : Kind) → is_free t ≡ true → t ≡ free
bare_free free h = refl
bare_free (scalar q) h = cc
bare_free (object_of gs) h = cc
bare_free (list_of n) h = cc

bare_is : (n : Group) → is_bare n ≡ true → n ≡ group Absent free
bare_is (group Absent t) h = ap (λ (u : Kind). group Absent u) (bare_free t h)
bare_is (group Required t) h = cc
bare_is (group Optional t) h = cc

pub bare_width : (n : Group) → is_bare n ≡ true → width n ≡ 0
bare_width n h = ap width (bare_is n h)

pub field_bare : (fs : List (List ℕ × Node)) (i : ℕ) (f : List ℕ × Node) (xs ys : List Record) (x : Record) (a : List (List Entry)) (k r m d : ℕ) (whole : Option Recs) → i < length fs → is_bare (group_of (get_or fs i f).1) ≡ true → ys ≡ xs ++ x ∷ [] → rec_of x ≡ rec None empty
    → fields_left xs (drop i fs) k r m d (heads m a) ≡ whole → fields_left ys (drop (i + 1) fs) k r m d (heads m a) ≡ whole
field_bare fs i f xs ys x a k r m d whole h bare made is e =
    let n = group_of (get_or fs i f).1 in
    let none : width n ≡ 0 = bare_width n bare in
    let place : k + width n ≡ k = omega (arith, none) in
    let read_is : read n k every r m d (heads m a) ≡ Some (rec_of x) = ap (λ (g : Group). read g k every r m d (heads m a)) (bare_is n bare) ∙ ap Some (sym is) in
    let p : Passed a a k (width n) m = passed_end a a k 0 (width n) m (sym none) (passed_none a k m) in
    subst (λ (j : ℕ). fields_left ys (drop (i + 1) fs) j r m d (heads m a) ≡ whole) place
    (field_taken fs i f xs ys x a a k r m d whole h made read_is p e)

pub field_missing : (fs : List (List ℕ × Node)) (i : ℕ) (f : List ℕ × Node) (xs : List Record) (k r m d : ℕ) (es : ℕ → List Entry) (whole : Option Recs) → i < length fs
    → fields_left xs (drop i fs) k r m d es ≡ whole → read (group_of (get_or fs i f).1) k every r m d es ≡ None → whole ≡ None
field_missing fs i f xs k r m d es whole h e none =
    sym e
    ∙ (ap (λ o. option_map (λ more. before (map rec_of xs) more) o) (field_next fs i f k r m d es h)
    ∙ ap (λ o. option_map (λ more. before (map rec_of xs) more) (with_field o (fields_read (groups_from (map named (drop (i + 1) fs))) (k + width (group_of (get_or fs i f).1)) every r m d es))) none)

pub fields_taken : (fs : List (List ℕ × Node)) (i : ℕ) (xs : List Record) (k r m d : ℕ) (es : ℕ → List Entry) (whole : Option Recs) → length fs ≤ i → fields_left xs (drop i fs) k r m d es ≡ whole → whole ≡ Some (recs_from (map rec_of xs))
fields_taken fs i xs k r m d es whole h e =
    sym e
    ∙ (ap (λ gs. option_map (λ rest. before (map rec_of xs) rest) (fields_read gs k every r m d es)) (fields_end fs i h)
    ∙ ap Some (before_none (map rec_of xs)))

-- ---- sizes of the fields that are left

pub fields_width : (fs : List (List ℕ × Node)) (i : ℕ) (f : List ℕ × Node) → i < length fs → width (group_of (get_or fs i f).1) + groups_width (groups_from (map named (drop (i + 1) fs))) ≡ groups_width (groups_from (map named (drop i fs)))
fields_width fs i f h = sym (ap groups_width (fields_at fs i f f h))

pub fields_done : (fs : List (List ℕ × Node)) (i : ℕ) → length fs ≤ i → groups_width (groups_from (map named (drop i fs))) ≡ 0
fields_done fs i h = ap groups_width (fields_end fs i h)

pub field_height : (fs : List (List ℕ × Node)) (i : ℕ) (f : List ℕ × Node) → i < length fs → height (group_of (get_or fs i f).1) ≤ groups_height (groups_from (map named fs))
field_height [] i f h = absurd (omega arith)
field_height (x ∷ fs) zero f h = omega arith
field_height (x ∷ fs) (suc i) f h = omega (arith, field_height fs i f (omega arith))

pub field_leaves : (fs : List (List ℕ × Node)) (i : ℕ) (f : List ℕ × Node) → i < length fs → GroupsHaveLeaves (groups_from (map named (drop i fs))) → HasLeaves (group_of (get_or fs i f).1) × GroupsHaveLeaves (groups_from (map named (drop (i + 1) fs)))
field_leaves fs i f h leaves = rw (fields_at fs i f f h) at leaves

-- ---- a record that isn't put: then what it stands in isn't read

pub put_fails : {D : Type 0} (refused : Refused Nothing) (part : Option Rec) (old new : List Record) (all : Option D) → Puts (Err refused) part old new → (part ≡ None → all ≡ None) → Reads {A = D} {F = Nothing} (λ x. x) (Err refused) all
put_fails (Fault fault) part old new all h k = k h
put_fails NoMemory part old new all h k = tt

-- ---- a record that is put after others

pub put_part : (v : Option (List ℕ)) (o : Option RecPart) (p : RecPart) (x : Record) (old room new : List Record) → new ≡ room ++ x ∷ [] → room ≡ old → rec_of x ≡ rec v p → o ≡ Some p → Put (with_part (Some v) o) old new
put_part v o p x old room new added same one typed = record {
  one = x;
  is = ap (with_part (Some v)) typed ∙ ap Some (sym one);
  put = added ∙ ap (λ l. l ++ x ∷ []) same;
}

-- a record whose value was taken, and then its typed part
module _ (s : Slot) (t : Kind) (n : Group) (v : Option (List ℕ)) (k r m d : ℕ) (a b : List (List Entry)) (is : n ≡ group s t) (value : value_read s true r d (heads m a k) ≡ Some v) (p : Passed a b k (slot_width s) m) where
  whole : read n k every r m d (heads m a) ≡ with_part (Some v) (typed_read t (k + slot_width s) r m d (heads m b))
  whole = ap (λ (g : Group). read g k every r m d (heads m a)) is ∙ record_read s t k r m d a b v _ value p refl

  pub put_rest : (result : Result ℕ (Refused Nothing)) (old room new : List Record) → room ≡ old → Puts result (with_part (Some v) (typed_read t (k + slot_width s) r m d (heads m b))) room new → Puts result (read n k every r m d (heads m a)) old new
  put_rest result old room new same h = subst (λ (xs : List Record). Puts result (read n k every r m d (heads m a)) xs new) same (subst (λ (o : Option Rec). Puts result o room new) (sym whole) h)

  pub put_one : (q : RecPart) (x : Record) (old room new : List Record) → new ≡ room ++ x ∷ [] → room ≡ old → rec_of x ≡ rec v q → typed_read t (k + slot_width s) r m d (heads m b) ≡ Some q → Put (read n k every r m d (heads m a)) old new
  put_one q x old room new added same one typed = subst (λ (o : Option Rec). Put o old new) (sym whole) (put_part v _ q x old room new added same one typed)
