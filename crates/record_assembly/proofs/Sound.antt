-- What is read is left of a record that has these entries.
use Rattle.std.proofs.Common.{◌≡◌, ◌∙◌, refl, sym, ap, ap₂, subst, ℕ, suc, ◌+◌, ◌==◌, Bool, true, false, not, ◌&&◌, cond, List, [], ◌∷◌, ◌++◌, map, Option, Some, None, arith, inl, inr}
use Rattle.std.specs.List.{flat_map}
use Rattle.std.specs.Option.{option_map, option_and_then}
use Rattle.std.proofs.lemmas.Bool.{both_ways, and_parts, eqb-true}
use Rattle.std.proofs.lemmas.Bool.Decides.{nat_tests}
use Rattle.vs_bytes.specs.declared.leaf_columns.Cell.{Cell}
use Rattle.vs_bytes.specs.declared.leaf_columns.Cell.TheVariants as leaf_cell
use Rattle.vs_bytes.specs.declared.leaf_columns.Entry.{Entry}
use Rattle.vs_bytes.specs.declared.leaf_columns.PrimKind.{PrimKind}
use Rattle.shred_schema.specs.declared.nodes.Slot.{Slot}
use Rattle.shred_schema.specs.declared.nodes.Slot.TheVariants.{Absent, Required, Optional}
use Rattle.shred_schema.specs.Cells.{is_of_prim}
use Rattle.shred_schema.specs.Groups.{Group, group, Kind, free, scalar, object_of, list_of, Groups, no_groups, field, slot_width, width, kind_width, groups_width}
use Rattle.shred_schema.specs.Ranges.{is_among, none_read}
use Rattle.shred_schema.specs.Recs.{Rec, rec, RecPart, empty, cell, fields, items, Recs, no_recs, recs, recs_from}
use Rattle.shred_schema.specs.Shapes.{Stands, IsOf, PartIsOf, FieldsAreOf}
use Rattle.shred_schema.proofs.LeafRanges.{among_one}
use Rattle.shred_schema.proofs.ReadLeaves.{read_at, none_passes}
use Rattle.level_striping.specs.Entries.{in_leaf, null_at, cell_at, value_entries, entries, part_entries, fields_entries}
use Rattle.record_assembly.specs.Cuts.{is_nil}
use Rattle.record_assembly.specs.Reading.{has_levels, is_null, only_cell, bytes_in, bytes_read, value_read, cell_read, with_part, with_field, items_read, longest, are_nil, are_null, read, part_read, fields_read}
use Rattle.record_assembly.specs.Shown.{shown, part_shown, fields_shown}
use Rattle.record_assembly.proofs.Complete.{empty_entries, empty_shown}
use Rattle.record_assembly.proofs.Found.{Found, FoundItems}
use Rattle.level_striping.proofs.OwnLeaves.{in_leaf_true, value_alone, part_alone, field_alone, fields_alone, in_from}
use Rattle.record_assembly.proofs.Leaves.{either, each_from}
use Rattle.record_assembly.proofs.ReadItems.{items_sound}

-- the leaves of a range that are read
abbrev pub IsReadIn : (ℕ → Bool) → ℕ → ℕ → ℕ → Type 0
IsReadIn mask k count j = (is_among j k count ≡ true) × (mask j ≡ true)

-- ---- one leaf

entry_is : (r d : ℕ) (v : Option Cell) (e : Entry) → has_levels r d e ≡ true → e.value ≡ v → e ∷ [] ≡ record { rep = r; def = d; value = v } ∷ []
entry_is r d v e h is =
    let parts = and_parts (e.rep == r) (e.def == d) h in
    let rep : e.rep ≡ r = eqb-true e.rep r parts.0 in
    let def : e.def ≡ d = eqb-true e.def d parts.1 in
    rw (← rep, ← def, ← is) refl

pub null_sound : (r d : ℕ) (es : List Entry) → is_null r d es ≡ true → es ≡ null_at r d
null_sound r d [] h = cc
null_sound r d (e ∷ []) h = by e.value refl h
  where
    by : (v : Option Cell) → e.value ≡ v → is_null r d (record { rep = e.rep; def = e.def; value = v } ∷ []) ≡ true → e ∷ [] ≡ null_at r d
    by None is g = entry_is r d None e (and_parts (has_levels r d e) true g).0 is
    by (Some c) is g = let no : true ≡ false = sym (and_parts (has_levels r d e) false g).1 in cc
null_sound r d (e ∷ f ∷ es) h = cc

cell_sound : (r d : ℕ) (es : List Entry) (c : Cell) → only_cell r d es ≡ Some c → es ≡ cell_at r d c
cell_sound r d [] c h = cc
cell_sound r d (e ∷ []) c h = by (has_levels r d e) refl h
  where
    by : (b : Bool) → has_levels r d e ≡ b → cond b e.value None ≡ Some c → e ∷ [] ≡ cell_at r d c
    by true is g = entry_is r d (Some c) e is g
    by false is g = cc
cell_sound r d (e ∷ f ∷ es) c h = cc

bytes_cell : (c : Cell) (bytes : List ℕ) → bytes_in c ≡ Some bytes → c ≡ leaf_cell.Bytes bytes
bytes_cell (leaf_cell.Bool b) bytes h = cc
bytes_cell (leaf_cell.Num z) bytes h = cc
bytes_cell (leaf_cell.Bytes other) bytes h = let same : other ≡ bytes = cc in ap leaf_cell.Bytes same

pub bytes_sound : (r d : ℕ) (es : List Entry) (bytes : List ℕ) → bytes_read r d es ≡ Some bytes → es ≡ cell_at r d (leaf_cell.Bytes bytes)
bytes_sound r d es bytes h = by (only_cell r d es) refl h
  where
    by : (o : Option Cell) → only_cell r d es ≡ o → option_and_then bytes_in o ≡ Some bytes → es ≡ cell_at r d (leaf_cell.Bytes bytes)
    by None is g = cc
    by (Some c) is g = cell_sound r d es c is ∙ ap (λ x. cell_at r d x) (bytes_cell c bytes g)

-- ---- values

pub record FoundValue (s : Slot) (read : Bool) (r d : ℕ) (es : List Entry) (w : Option (List ℕ)) : Type 0 where
  pub one : Option (List ℕ)
  pub of : Stands s one
  pub agree : read ≡ true → es ≡ value_entries s r d one
  pub is : cond (not read && true) None one ≡ w

required_found : (read : Bool) (r d : ℕ) (es : List Entry) (w : Option (List ℕ)) → value_read Required read r d es ≡ Some w → FoundValue Required read r d es w
required_found false r d es w h = let none : None ≡ w = cc in record { one = Some []; of = tt; agree = λ y. cc; is = none }
required_found true r d es w h = by (bytes_read r d es) refl h
  where
    by : (o : Option (List ℕ)) → bytes_read r d es ≡ o → option_map Some o ≡ Some w → FoundValue Required true r d es w
    by None is g = cc
    by (Some bytes) is g = let same : Some bytes ≡ w = cc in record { one = Some bytes; of = tt; agree = λ y. bytes_sound r d es bytes is; is = same }

optional_found : (read : Bool) (r d : ℕ) (es : List Entry) (w : Option (List ℕ)) → value_read Optional read r d es ≡ Some w → FoundValue Optional read r d es w
optional_found false r d es w h = let none : None ≡ w = cc in record { one = None; of = tt; agree = λ y. cc; is = none }
optional_found true r d es w h = by (is_null r d es) (bytes_read r (d + 1) es) refl refl h
  where
    by : (b : Bool) (o : Option (List ℕ)) → is_null r d es ≡ b → bytes_read r (d + 1) es ≡ o → cond b (Some None) (option_map Some o) ≡ Some w → FoundValue Optional true r d es w
    by true o null is g = let none : None ≡ w = cc in record { one = None; of = tt; agree = λ y. null_sound r d es null; is = none }
    by false None null is g = cc
    by false (Some bytes) null is g = let same : Some bytes ≡ w = cc in record { one = Some bytes; of = tt; agree = λ y. bytes_sound r (d + 1) es bytes is; is = same }

-- the same in terms of leaves
abbrev FoundAt : Slot → ℕ → (ℕ → Bool) → ℕ → ℕ → (ℕ → List Entry) → Option (List ℕ) → Type 0
FoundAt s k mask r d es w = Found {A = Option (List ℕ)} {B = Option (List ℕ)} (Stands s) (IsReadIn mask k (slot_width s)) (λ v j. in_leaf (j == k) (value_entries s r d v)) (λ v. cond (none_read mask k (slot_width s)) None v) es w

none_in : (j k : ℕ) → is_among j k 0 ≡ true → ⊥
none_in j k = grind (arith, nat_tests)

pub one_leaf : (j k : ℕ) → is_among j k 1 ≡ true → j ≡ k
one_leaf j k = grind (arith, nat_tests)

at_leaf : (s : Slot) (k : ℕ) (mask : ℕ → Bool) (r d : ℕ) (es : ℕ → List Entry) (w v : Option (List ℕ)) → (mask k ≡ true → es k ≡ value_entries s r d v) → (j : ℕ) → IsReadIn mask k 1 j → es j ≡ in_leaf (j == k) (value_entries s r d v)
at_leaf s k mask r d es w v agree j l =
    let same : j ≡ k = one_leaf j k l.0 in
    let y : mask k ≡ true = subst (λ (i : ℕ). mask i ≡ true) same l.1 in
    ap es same ∙ (agree y ∙ sym (in_leaf_true (j == k) (value_entries s r d v) (sym (among_one j k) ∙ l.0)))

value_sound : (s : Slot) (k : ℕ) (mask : ℕ → Bool) (r d : ℕ) (es : ℕ → List Entry) (w : Option (List ℕ)) → value_read s (mask k) r d (es k) ≡ Some w → FoundAt s k mask r d es w
value_sound Absent k mask r d es w h = let none : None ≡ w = cc in record { one = None; of = tt; agree = λ j l. absurd (none_in j k l.0); is = none }
value_sound Required k mask r d es w h =
    let v = required_found (mask k) r d (es k) w h in
    record { one = v.one; of = v.of; agree = at_leaf Required k mask r d es w v.one v.agree; is = v.is }
value_sound Optional k mask r d es w h =
    let v = optional_found (mask k) r d (es k) w h in
    record { one = v.one; of = v.of; agree = at_leaf Optional k mask r d es w v.one v.agree; is = v.is }

-- ---- typed parts

empty_of : (t : Kind) → PartIsOf t empty
empty_of free = tt
empty_of (scalar q) = tt
empty_of (object_of gs) = tt
empty_of (list_of n) = tt

-- a typed part that was read, whether it is there or not
abbrev pub FoundTyped : Kind → ℕ → (ℕ → Bool) → ℕ → ℕ → ℕ → (ℕ → List Entry) → RecPart → Type 0
FoundTyped t k mask r m d es q = Found {A = RecPart} {B = RecPart} (PartIsOf t) (IsReadIn mask k (kind_width t)) (part_entries t k r m d) (λ p. cond (none_read mask k (kind_width t)) empty (part_shown t k mask p)) es q

abbrev pub FoundPart : Kind → ℕ → (ℕ → Bool) → ℕ → ℕ → ℕ → (ℕ → List Entry) → RecPart → Type 0
FoundPart t k mask r m d es q = Found {A = RecPart} {B = RecPart} (PartIsOf t) (IsReadIn mask k (kind_width t)) (part_entries t k r m d) (part_shown t k mask) es q

abbrev pub FoundRec : Group → ℕ → (ℕ → Bool) → ℕ → ℕ → ℕ → (ℕ → List Entry) → Rec → Type 0
FoundRec n k mask r m d es q = Found {A = Rec} {B = Rec} (IsOf n) (IsReadIn mask k (width n)) (entries n k r m d) (shown n k mask) es q

abbrev pub FoundFields : Groups → ℕ → (ℕ → Bool) → ℕ → ℕ → ℕ → (ℕ → List Entry) → Recs → Type 0
FoundFields gs k mask r m d es q = Found {A = Recs} {B = Recs} (FieldsAreOf gs) (IsReadIn mask k (groups_width gs)) (fields_entries gs k r m d) (fields_shown gs k mask) es q

typed_sound : (t : Kind) (k : ℕ) (mask : ℕ → Bool) (r m d : ℕ) (es : ℕ → List Entry) (q : RecPart) → ((p : RecPart) → part_read t k mask r m d es ≡ Some p → FoundPart t k mask r m d es p) → cond (are_null mask k (kind_width t) r d es) (Some empty) (part_read t k mask r m d es) ≡ Some q → FoundTyped t k mask r m d es q
typed_sound t k mask r m d es q there h = by (are_null mask k (kind_width t) r d es) (none_read mask k (kind_width t)) refl refl h
  where
    by : (b c : Bool) → are_null mask k (kind_width t) r d es ≡ b → none_read mask k (kind_width t) ≡ c → cond b (Some empty) (part_read t k mask r m d es) ≡ Some q → FoundTyped t k mask r m d es q
    by true c null unread g =
        let same : empty ≡ q = cc in
        record {
          one = empty;
          of = empty_of t;
          agree = λ j l. null_sound r d (es j) (read_at mask k (kind_width t) (λ i. is_null r d (es i)) j null l.0 l.1) ∙ sym (empty_entries t k r m d j l.0);
          is = empty_shown t k mask (none_read mask k (kind_width t)) ∙ same;
        }
    by false true null unread g = absurd (both_ways (are_null mask k (kind_width t) r d es) null (none_passes mask k (kind_width t) (λ j. is_null r d (es j)) unread))
    by false false null unread g =
        let f = there q g in
        record { one = f.one; of = f.of; agree = f.agree; is = rw unread f.is }

-- ---- lists

pub list_found : (n : Group) (k : ℕ) (mask : ℕ → Bool) (r m d : ℕ) (es : ℕ → List Entry) (qs : List Rec) (q : RecPart) → FoundItems {A = Rec} {B = Rec} (IsOf n) (IsReadIn mask k (width n)) (entries n k r (m + 1) (d + 2)) (entries n k (m + 1) (m + 1) (d + 2)) (shown n k mask) es qs → items (recs_from qs) ≡ q → FoundPart (list_of n) k mask r m d es q
list_found n k mask r m d es qs q f whole = record {
  one = items (recs f.head (recs_from f.tail));
  of = (f.of, each_from (IsOf n) f.tail f.all);
  agree = λ j l. f.agree j l ∙ ap (λ xs. entries n k r (m + 1) (d + 2) f.head j ++ flat_map (λ x. entries n k (m + 1) (m + 1) (d + 2) x j) xs) (sym (in_from f.tail));
  is = ap (λ xs. items (recs (shown n k mask f.head) (recs_from (map (shown n k mask) xs)))) (in_from f.tail) ∙ (ap (λ xs. items (recs_from xs)) f.is ∙ whole);
}

pub nil_sound : (es : List Entry) → is_nil es ≡ true → es ≡ []
nil_sound [] h = refl
nil_sound (e ∷ es) h = cc

list_sound : (n : Group) (k : ℕ) (mask : ℕ → Bool) (r m d : ℕ) (es : ℕ → List Entry) (q : RecPart) → ((a : ℕ) (fs : ℕ → List Entry) (x : Rec) → read n k mask a (m + 1) (d + 2) fs ≡ Some x → FoundRec n k mask a (m + 1) (d + 2) fs x) → part_read (list_of n) k mask r m d es ≡ Some q → FoundPart (list_of n) k mask r m d es q
list_sound n k mask r m d es q one h = by (are_null mask k (width n) r (d + 1) es) (items_read (λ a fs. read n k mask a (m + 1) (d + 2) fs) (are_nil mask k (width n)) (m + 1) (suc (longest k (width n) es)) r es) refl refl h
  where
    by : (b : Bool) (o : Option (List Rec)) → are_null mask k (width n) r (d + 1) es ≡ b → items_read (λ a fs. read n k mask a (m + 1) (d + 2) fs) (are_nil mask k (width n)) (m + 1) (suc (longest k (width n) es)) r es ≡ o → cond b (Some (items no_recs)) (option_map (λ xs. items (recs_from xs)) o) ≡ Some q → FoundPart (list_of n) k mask r m d es q
    by true o null is g =
        let same : items no_recs ≡ q = cc in
        record {
          one = items no_recs;
          of = tt;
          agree = λ j l. null_sound r (d + 1) (es j) (read_at mask k (width n) (λ i. is_null r (d + 1) (es i)) j null l.0 l.1) ∙ sym (in_leaf_true _ (null_at r (d + 1)) l.0);
          is = same;
        }
    by false None null is g = cc
    by false (Some qs) null is g =
        let same : items (recs_from qs) ≡ q = cc in
        list_found n k mask r m d es qs q
        (items_sound {A = Rec} {B = Rec} (λ a x j. entries n k a (m + 1) (d + 2) x j) (λ a fs. read n k mask a (m + 1) (d + 2) fs) (shown n k mask) (IsOf n) (IsReadIn mask k (width n)) (m + 1) (are_nil mask k (width n)) one (λ fs e j l. nil_sound (fs j) (read_at mask k (width n) (λ i. is_nil (fs i)) j e l.0 l.1)) (suc (longest k (width n) es)) r es qs is)
        same

-- ---- parts joined

group_found : (s : Slot) (t : Kind) (k : ℕ) (mask : ℕ → Bool) (r m d : ℕ) (es : ℕ → List Entry) (w : Option (List ℕ)) (p : RecPart) (q : Rec) → FoundAt s k mask r d es w → FoundTyped t (k + slot_width s) mask r m d es p → rec w p ≡ q → FoundRec (group s t) k mask r m d es q
group_found s t k mask r m d es w p q v u whole = record {
  one = rec v.one u.one;
  of = (v.of, u.of);
  agree = λ j l. elim (either j k (slot_width s) (kind_width t) l.0) [
    | inl a ↦ v.agree j (a, l.1) ∙ sym (value_alone s t k r m d v.one u.one j a)
    | inr a ↦ u.agree j (a, l.1) ∙ sym (part_alone s t k r m d v.one u.one j a)
  ];
  is = ap₂ rec v.is u.is ∙ whole;
}

field_found : (name : List ℕ) (n : Group) (gs : Groups) (k : ℕ) (mask : ℕ → Bool) (r m d : ℕ) (es : ℕ → List Entry) (x : Rec) (xs q : Recs) → FoundRec n k mask r m d es x → FoundFields gs (k + width n) mask r m d es xs → recs x xs ≡ q → FoundFields (field name n gs) k mask r m d es q
field_found name n gs k mask r m d es x xs q v u whole = record {
  one = recs v.one u.one;
  of = (v.of, u.of);
  agree = λ j l. elim (either j k (width n) (groups_width gs) l.0) [
    | inl a ↦ v.agree j (a, l.1) ∙ sym (field_alone name n gs k r m d v.one u.one j a)
    | inr a ↦ u.agree j (a, l.1) ∙ sym (fields_alone name n gs k r m d v.one u.one j a)
  ];
  is = ap₂ recs v.is u.is ∙ whole;
}

-- what was joined
record Both {A B C : Type 0} (f : A → B → C) (x : Option A) (y : Option B) (c : C) : Type 0 where
  left : A
  right : B
  left_is : x ≡ Some left
  right_is : y ≡ Some right
  whole : f left right ≡ c

part_both : (x : Option (Option (List ℕ))) (y : Option RecPart) (q : Rec) → with_part x y ≡ Some q → Both rec x y q
part_both None y q h = cc
part_both (Some v) None q h = cc
part_both (Some v) (Some p) q h = let same : rec v p ≡ q = cc in record { left = v; right = p; left_is = refl; right_is = refl; whole = same }

field_both : (x : Option Rec) (y : Option Recs) (q : Recs) → with_field x y ≡ Some q → Both recs x y q
field_both None y q h = cc
field_both (Some x) None q h = cc
field_both (Some x) (Some xs) q h = let same : recs x xs ≡ q = cc in record { left = x; right = xs; left_is = refl; right_is = refl; whole = same }

record Mapped {A B : Type 0} (f : A → B) (x : Option A) (c : B) : Type 0 where
  inner : A
  inner_is : x ≡ Some inner
  whole : f inner ≡ c

fields_mapped : (x : Option Recs) (q : RecPart) → option_map fields x ≡ Some q → Mapped fields x q
fields_mapped None q h = cc
fields_mapped (Some xs) q h = let same : fields xs ≡ q = cc in record { inner = xs; inner_is = refl; whole = same }

fields_part : (gs : Groups) (k : ℕ) (mask : ℕ → Bool) (r m d : ℕ) (es : ℕ → List Entry) (xs : Recs) (q : RecPart) → FoundFields gs k mask r m (d + 1) es xs → fields xs ≡ q → FoundPart (object_of gs) k mask r m d es q
fields_part gs k mask r m d es xs q f whole = record { one = fields f.one; of = f.of; agree = f.agree; is = ap fields f.is ∙ whole }

cell_found : (t : PrimKind) (k : ℕ) (mask : ℕ → Bool) (r m d : ℕ) (es : ℕ → List Entry) (q : RecPart) → cell_read t (only_cell r (d + 1) (es k)) ≡ Some q → FoundPart (scalar t) k mask r m d es q
cell_found t k mask r m d es q h = by (only_cell r (d + 1) (es k)) refl h
  where
    there : (c : Cell) (b : Bool) → only_cell r (d + 1) (es k) ≡ Some c → is_of_prim t c ≡ b → cond b (Some (cell c)) None ≡ Some q → FoundPart (scalar t) k mask r m d es q
    there c true is of g =
        let same : cell c ≡ q = cc in
        record {
          one = cell c;
          of = of;
          agree = λ j l. ap es (one_leaf j k l.0) ∙ (cell_sound r (d + 1) (es k) c is ∙ sym (in_leaf_true (j == k) (cell_at r (d + 1) c) (sym (among_one j k) ∙ l.0)));
          is = same;
        }
    there c false is of g = cc

    by : (o : Option Cell) → only_cell r (d + 1) (es k) ≡ o → cell_read t o ≡ Some q → FoundPart (scalar t) k mask r m d es q
    by None is g = cc
    by (Some c) is g = there c (is_of_prim t c) is refl g

no_fields_found : (k : ℕ) (mask : ℕ → Bool) (r m d : ℕ) (es : ℕ → List Entry) (q : Recs) → no_recs ≡ q → FoundFields no_groups k mask r m d es q
no_fields_found k mask r m d es q h = record { one = no_recs; of = tt; agree = λ j l. absurd (none_in j k l.0); is = h }

-- ---- records

mutual
  pub sound : (n : Group) (k : ℕ) (mask : ℕ → Bool) (r m d : ℕ) (es : ℕ → List Entry) (q : Rec) → read n k mask r m d es ≡ Some q → FoundRec n k mask r m d es q
  sound (group s t) k mask r m d es q h =
      let b = part_both (value_read s (mask k) r d (es k)) (cond (are_null mask (k + slot_width s) (kind_width t) r d es) (Some empty) (part_read t (k + slot_width s) mask r m d es)) q h in
      group_found s t k mask r m d es b.left b.right q (value_sound s k mask r d es b.left b.left_is) (typed_sound t (k + slot_width s) mask r m d es b.right (λ p e. part_sound t (k + slot_width s) mask r m d es p e) b.right_is) b.whole

  pub part_sound : (t : Kind) (k : ℕ) (mask : ℕ → Bool) (r m d : ℕ) (es : ℕ → List Entry) (q : RecPart) → part_read t k mask r m d es ≡ Some q → FoundPart t k mask r m d es q
  part_sound free k mask r m d es q h = cc
  part_sound (scalar t) k mask r m d es q h = cell_found t k mask r m d es q h
  part_sound (object_of gs) k mask r m d es q h =
      let b = fields_mapped (fields_read gs k mask r m (d + 1) es) q h in
      fields_part gs k mask r m d es b.inner q (fields_sound gs k mask r m (d + 1) es b.inner b.inner_is) b.whole
  part_sound (list_of n) k mask r m d es q h = list_sound n k mask r m d es q (λ a fs x e. sound n k mask a (m + 1) (d + 2) fs x e) h

  pub fields_sound : (gs : Groups) (k : ℕ) (mask : ℕ → Bool) (r m d : ℕ) (es : ℕ → List Entry) (q : Recs) → fields_read gs k mask r m d es ≡ Some q → FoundFields gs k mask r m d es q
  fields_sound no_groups k mask r m d es q h = let same : no_recs ≡ q = cc in no_fields_found k mask r m d es q same
  fields_sound (field name n gs) k mask r m d es q h =
      let b = field_both (read n k mask r m d es) (fields_read gs (k + width n) mask r m d es) q h in
      field_found name n gs k mask r m d es b.left b.right q (sound n k mask r m d es b.left b.left_is) (fields_sound gs (k + width n) mask r m d es b.right b.right_is) b.whole
