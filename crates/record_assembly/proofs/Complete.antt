-- A record is read from its entries, as the mask leaves it.
use Rattle.std.proofs.Common.{◌≡◌, ◌∙◌, refl, sym, ap, subst, ℕ, zero, suc, ◌+◌, ◌<◌, ◌≤◌, ◌==◌, Bool, true, false, not, ◌&&◌, cond, List, [], ◌∷◌, length, length-append, map, max, Option, Some, None, arith, eq-eqb, inl, inr}
use Rattle.std.specs.List.{AllByRecursion, flat_map}
use Rattle.std.proofs.lemmas.Bool.Decides.{nat_tests}
use Rattle.vs_bytes.specs.declared.leaf_columns.Cell.{Cell}
use Rattle.vs_bytes.specs.declared.leaf_columns.Cell.TheVariants as leaf_cell
use Rattle.vs_bytes.specs.declared.leaf_columns.Entry.{Entry}
use Rattle.shred_schema.specs.declared.nodes.Slot.{Slot}
use Rattle.shred_schema.specs.declared.nodes.Slot.TheVariants.{Absent, Required, Optional}
use Rattle.shred_schema.specs.Groups.{Group, group, Kind, free, scalar, object_of, list_of, Groups, no_groups, field, slot_width, width, kind_width, groups_width}
use Rattle.shred_schema.specs.Ranges.{is_among, none_read}
use Rattle.shred_schema.specs.Recs.{Rec, rec, RecPart, empty, cell, fields, items, Recs, no_recs, recs, recs_in, EachRec}
use Rattle.shred_schema.specs.Shapes.{Stands, IsOf, PartIsOf, FieldsAreOf}
use Rattle.shred_schema.proofs.LeafRanges.{among_one, among_first, among_left, among_right}
use Rattle.shred_schema.proofs.ReadLeaves.{bool_cases, read_from, none_passes, fails_read, one_read}
use Rattle.level_striping.specs.Entries.{in_leaf, null_at, cell_at, value_entries, entries, part_entries, fields_entries}
use Rattle.record_assembly.specs.Cuts.{is_nil}
use Rattle.record_assembly.specs.Laws.{Have}
use Rattle.record_assembly.specs.Reading.{has_levels, is_null, only_cell, bytes_read, value_read, items_read, longest, are_nil, are_null, read, part_read, fields_read}
use Rattle.record_assembly.specs.Shown.{shown, part_shown, fields_shown}
use Rattle.record_assembly.proofs.Cutting.{Begins, begins_long, items_long}
use Rattle.level_striping.proofs.OwnLeaves.{in_leaf_true, value_alone, part_alone, field_alone, fields_alone}
use Rattle.record_assembly.proofs.Leaves.{begins, part_begins, part_level, each_in}
use Rattle.record_assembly.proofs.ReadItems.{Readable, items_complete}

-- ---- one leaf

pub levels_same : (r d : ℕ) (v : Option Cell) → has_levels r d (record { rep = r; def = d; value = v }) ≡ true
levels_same r d v = rw (eq-eqb r r refl, eq-eqb d d refl) refl

pub null_is : (r d : ℕ) (es : List Entry) → es ≡ null_at r d → is_null r d es ≡ true
null_is r d es e = rw (e, levels_same r d None) refl

pub only_is : (r d : ℕ) (c : Cell) (es : List Entry) → es ≡ cell_at r d c → only_cell r d es ≡ Some c
only_is r d c es e = rw (e, levels_same r d (Some c)) refl

pub bytes_is : (r d : ℕ) (bytes : List ℕ) (es : List Entry) → es ≡ cell_at r d (leaf_cell.Bytes bytes) → bytes_read r d es ≡ Some bytes
bytes_is r d bytes es e = rw (only_is r d (leaf_cell.Bytes bytes) es e) refl

above_not : (r d : ℕ) (e : Entry) → d < e.def → has_levels r d e ≡ false
above_not r d e h = grind (arith, nat_tests)

-- what reaches a higher definition level is no entry without value at a lower one
pub reaches_more : (r d m c : ℕ) (es : List Entry) → d < c → Begins r m c es → is_null r d es ≡ false
reaches_more r d m c es h b = rw b.whole (by b.rest)
  where
    low : has_levels r d b.first ≡ false
    low = above_not r d b.first (omega (arith, b.def))

    by : (rest : List Entry) → is_null r d (b.first ∷ rest) ≡ false
    by [] = rw low refl
    by (e ∷ es) = refl

-- ---- values

pub here : (k : ℕ) (es : List Entry) → in_leaf (k == k) es ≡ es
here k es = in_leaf_true (k == k) es (eq-eqb k k refl)

required_read : (b : Bool) (r d : ℕ) (bytes : List ℕ) (es : List Entry) → (b ≡ true → es ≡ cell_at r d (leaf_cell.Bytes bytes)) → value_read Required b r d es ≡ Some (cond (not b && true) None (Some bytes))
required_read true r d bytes es are = rw (bytes_is r d bytes es (are refl)) refl
required_read false r d bytes es are = refl

missing_read : (b : Bool) (r d : ℕ) (es : List Entry) → (b ≡ true → es ≡ null_at r d) → value_read Optional b r d es ≡ Some (cond (not b && true) None None)
missing_read true r d es are = rw (null_is r d es (are refl)) refl
missing_read false r d es are = refl

above_null : (r d : ℕ) (c : Cell) (es : List Entry) → es ≡ cell_at r (d + 1) c → is_null r d es ≡ false
above_null r d c es e = rw (e, above_not r d (record { rep = r; def = d + 1; value = Some c }) (omega arith)) refl

there_read : (b : Bool) (r d : ℕ) (bytes : List ℕ) (es : List Entry) → (b ≡ true → es ≡ cell_at r (d + 1) (leaf_cell.Bytes bytes)) → value_read Optional b r d es ≡ Some (cond (not b && true) None (Some bytes))
there_read true r d bytes es are = rw (above_null r d _ es (are refl), bytes_is r (d + 1) bytes es (are refl)) refl
there_read false r d bytes es are = refl

value_complete : (s : Slot) (k : ℕ) (mask : ℕ → Bool) (r d : ℕ) (es : List Entry) (v : Option (List ℕ)) → Stands s v → (is_among k k (slot_width s) ≡ true → mask k ≡ true → es ≡ in_leaf (k == k) (value_entries s r d v)) → value_read s (mask k) r d es ≡ Some (cond (none_read mask k (slot_width s)) None v)
value_complete Absent k mask r d es None of has = refl
value_complete Absent k mask r d es (Some bytes) of has = absurd of
value_complete Required k mask r d es None of has = absurd of
value_complete Required k mask r d es (Some bytes) of has = required_read (mask k) r d bytes es (λ m. has (among_first k 0) m ∙ here k _)
value_complete Optional k mask r d es None of has = missing_read (mask k) r d es (λ m. has (among_first k 0) m ∙ here k _)
value_complete Optional k mask r d es (Some bytes) of has = there_read (mask k) r d bytes es (λ m. has (among_first k 0) m ∙ here k _)

-- ---- typed parts

pub empty_entries : (t : Kind) (k r m d j : ℕ) → is_among j k (kind_width t) ≡ true → part_entries t k r m d empty j ≡ null_at r d
empty_entries free k r m d j a = elim (none_in j k a) [ ]
  where
    none_in : (j k : ℕ) → is_among j k 0 ≡ true → ⊥
    none_in j k = grind (arith, nat_tests)
empty_entries (scalar q) k r m d j a = in_leaf_true (j == k) (null_at r d) (sym (among_one j k) ∙ a)
empty_entries (object_of gs) k r m d j a = in_leaf_true _ (null_at r d) a
empty_entries (list_of n) k r m d j a = in_leaf_true _ (null_at r d) a

pub empty_shown : (t : Kind) (k : ℕ) (mask : ℕ → Bool) (b : Bool) → cond b empty (part_shown t k mask empty) ≡ empty
empty_shown free k mask true = refl
empty_shown free k mask false = refl
empty_shown (scalar q) k mask true = refl
empty_shown (scalar q) k mask false = refl
empty_shown (object_of gs) k mask true = refl
empty_shown (object_of gs) k mask false = refl
empty_shown (list_of n) k mask true = refl
empty_shown (list_of n) k mask false = refl

pub are_null_from : (mask : ℕ → Bool) (k c r d : ℕ) (es : ℕ → List Entry) → Have mask k c es (λ j. null_at r d) → are_null mask k c r d es ≡ true
are_null_from mask k c r d es has = read_from mask k c (λ j. is_null r d (es j)) (λ j a y. null_is r d (es j) (has j a y))

pub not_null_from : (mask : ℕ → Bool) (k c r d m e : ℕ) (es : ℕ → List Entry) → none_read mask k c ≡ false → d < e → ((j : ℕ) → is_among j k c ≡ true → mask j ≡ true → Begins r m e (es j)) → are_null mask k c r d es ≡ false
not_null_from mask k c r d m e es some h b = fails_read mask k c (λ j. is_null r d (es j)) some (λ j a y. reaches_more r d m e (es j) h (b j a y))

pub begins_at : (r m d : ℕ) (es fs : List Entry) → es ≡ fs → Begins r m d fs → Begins r m d es
begins_at r m d es fs e b = rw e b

part_there : (t : Kind) (k : ℕ) (mask : ℕ → Bool) (r m d : ℕ) (es : ℕ → List Entry) (p : RecPart) → PartIsOf t p → Have mask k (kind_width t) es (part_entries t k r m d p) → (1 ≤ part_level p → none_read mask k (kind_width t) ≡ false → part_read t k mask r m d es ≡ Some (part_shown t k mask p)) → 1 ≤ part_level p → cond (are_null mask k (kind_width t) r d es) (Some empty) (part_read t k mask r m d es) ≡ Some (cond (none_read mask k (kind_width t)) empty (part_shown t k mask p))
part_there t k mask r m d es p of has there level =
    elim (bool_cases (none_read mask k (kind_width t))) [
      | inl e ↦ rw (none_passes mask k (kind_width t) (λ j. is_null r d (es j)) e, e) refl
      | inr e ↦ rw (not_null_from mask k (kind_width t) r d m (d + part_level p) es e (omega arith) (λ j a y. begins_at r m (d + part_level p) (es j) _ (has j a y) (part_begins t k r m d p j of a)), there level e, e) refl
    ]

-- a typed part is there or not, where one that is there is read
typed_complete : (t : Kind) (k : ℕ) (mask : ℕ → Bool) (r m d : ℕ) (es : ℕ → List Entry) (p : RecPart) → PartIsOf t p → Have mask k (kind_width t) es (part_entries t k r m d p) → (1 ≤ part_level p → none_read mask k (kind_width t) ≡ false → part_read t k mask r m d es ≡ Some (part_shown t k mask p)) → cond (are_null mask k (kind_width t) r d es) (Some empty) (part_read t k mask r m d es) ≡ Some (cond (none_read mask k (kind_width t)) empty (part_shown t k mask p))
typed_complete t k mask r m d es empty of has there =
    rw (are_null_from mask k (kind_width t) r d es (λ j a y. has j a y ∙ empty_entries t k r m d j a), empty_shown t k mask (none_read mask k (kind_width t))) refl
typed_complete t k mask r m d es (cell c) of has there = part_there t k mask r m d es (cell c) of has there (omega arith)
typed_complete t k mask r m d es (fields xs) of has there = part_there t k mask r m d es (fields xs) of has there (omega arith)
typed_complete t k mask r m d es (items no_recs) of has there = part_there t k mask r m d es (items no_recs) of has there (omega arith)
typed_complete t k mask r m d es (items (recs x xs)) of has there = part_there t k mask r m d es (items (recs x xs)) of has there (omega arith)

-- ---- lists

only_first : (j k c : ℕ) → is_among j k (suc c) ≡ true → is_among j (k + 1) c ≡ false → j ≡ k
only_first j k c = grind (arith, nat_tests)

none_in : (j k : ℕ) → is_among j k 0 ≡ true → ⊥
none_in j k = grind (arith, nat_tests)

pub longest_at : (j k c : ℕ) (es : ℕ → List Entry) → is_among j k c ≡ true → length (es j) ≤ longest k c es
longest_at j k zero es a = elim (none_in j k a) [ ]
longest_at j k (suc c) es a = by (is_among j (k + 1) c) refl (λ e. longest_at j (k + 1) c es e)
  where
    by : (b : Bool) → is_among j (k + 1) c ≡ b → (is_among j (k + 1) c ≡ true → length (es j) ≤ longest (k + 1) c es) → length (es j) ≤ max (length (es k)) (longest (k + 1) c es)
    by true e later = omega (arith, later e)
    by false e later = let same : j ≡ k = only_first j k c a e in rw same (omega arith)

list_complete : (n : Group) (k : ℕ) (mask : ℕ → Bool) (r m d : ℕ) (es : ℕ → List Entry) (x : Rec) (xs : Recs) → ((a : ℕ) (y : Rec) (fs : ℕ → List Entry) → IsOf n y → Have mask k (width n) fs (entries n k a (m + 1) (d + 2) y) → read n k mask a (m + 1) (d + 2) fs ≡ Some (shown n k mask y)) → none_read mask k (width n) ≡ false → IsOf n x → EachRec (IsOf n) xs → Have mask k (width n) es (part_entries (list_of n) k r m d (items (recs x xs))) → items_read (λ a fs. read n k mask a (m + 1) (d + 2) fs) (are_nil mask k (width n)) (m + 1) (suc (longest k (width n) es)) r es ≡ Some (shown n k mask x ∷ map (shown n k mask) (recs_in xs))
list_complete n k mask r m d es x xs one some of all has =
    items_complete {A = Rec} {B = Rec} (λ a y j. entries n k a (m + 1) (d + 2) y j) (λ a fs. read n k mask a (m + 1) (d + 2) fs) (shown n k mask) (IsOf n) (λ j. (is_among j k (width n) ≡ true) × (mask j ≡ true)) (m + 1) (d + 2) (are_nil mask k (width n)) known (recs_in xs) x (suc (longest k (width n) es)) r es of each fits (λ j l. has j l.0 l.1)
  where
    each : AllByRecursion (IsOf n) (recs_in xs)
    each = each_in (IsOf n) xs all

    known : Readable {A = Rec} {B = Rec} (λ a y j. entries n k a (m + 1) (d + 2) y j) (λ a fs. read n k mask a (m + 1) (d + 2) fs) (shown n k mask) (IsOf n) (λ j. (is_among j k (width n) ≡ true) × (mask j ≡ true)) (m + 1) (d + 2) (are_nil mask k (width n))
    known = record {
      begin = λ a y j o l. begins n k a (m + 1) (d + 2) y j o l.0;
      reads = λ a y fs o h. one a y fs o (λ j i z. h j (i, z));
      ends = λ fs h. read_from mask k (width n) (λ j. is_nil (fs j)) (λ j i z. ap is_nil (h j (i, z)));
      goes = λ fs h. fails_read mask k (width n) (λ j. is_nil (fs j)) some (λ j i z. h j (i, z));
    }

    fits : length (recs_in xs) < suc (longest k (width n) es)
    fits =
        let found = one_read mask k (width n) some in
        let j = found.leaf in
        let first = begins_long r (m + 1) (d + 2) (entries n k r (m + 1) (d + 2) x j) (begins n k r (m + 1) (d + 2) x j of found.inside) in
        let later = items_long (IsOf n) (λ y. entries n k (m + 1) (m + 1) (d + 2) y j) (λ y o. begins_long (m + 1) (m + 1) (d + 2) (entries n k (m + 1) (m + 1) (d + 2) y j) (begins n k (m + 1) (m + 1) (d + 2) y j o found.inside)) (recs_in xs) each in
        let most = longest_at j k (width n) es found.inside in
        let sum = length-append (entries n k r (m + 1) (d + 2) x j) (flat_map (λ y. entries n k (m + 1) (m + 1) (d + 2) y j) (recs_in xs)) in
        let whole = ap length (has j found.inside found.read) in
        omega (arith, first, later, most, sum, whole)

one_leaf : (j k : ℕ) → is_among j k 1 ≡ true → j ≡ k
one_leaf j k = grind (arith, nat_tests)

-- ---- records

mutual
  pub complete : (n : Group) (k : ℕ) (mask : ℕ → Bool) (r m d : ℕ) (es : ℕ → List Entry) (x : Rec) → IsOf n x → Have mask k (width n) es (entries n k r m d x) → read n k mask r m d es ≡ Some (shown n k mask x)
  complete (group s t) k mask r m d es (rec v p) of has =
      let part_has : Have mask (k + slot_width s) (kind_width t) es (part_entries t (k + slot_width s) r m d p) = λ j a y. has j (among_right j k (slot_width s) (kind_width t) a) y ∙ part_alone s t k r m d v p j a in
      let value = value_complete s k mask r d (es k) v of.0 (λ a y. has k (among_left k k (slot_width s) (kind_width t) a) y ∙ value_alone s t k r m d v p k a) in
      let typed = typed_complete t (k + slot_width s) mask r m d es p of.1 part_has (λ level some. part_complete t (k + slot_width s) mask r m d es p of.1 level some part_has) in
      rw (value, typed) refl

  pub part_complete : (t : Kind) (k : ℕ) (mask : ℕ → Bool) (r m d : ℕ) (es : ℕ → List Entry) (p : RecPart) → PartIsOf t p → 1 ≤ part_level p → none_read mask k (kind_width t) ≡ false → Have mask k (kind_width t) es (part_entries t k r m d p) → part_read t k mask r m d es ≡ Some (part_shown t k mask p)
  part_complete free k mask r m d es empty of level some has = absurd (omega arith)
  part_complete free k mask r m d es (cell c) of level some has = absurd of
  part_complete free k mask r m d es (fields xs) of level some has = absurd of
  part_complete free k mask r m d es (items xs) of level some has = absurd of
  part_complete (scalar q) k mask r m d es empty of level some has = absurd (omega arith)
  part_complete (scalar q) k mask r m d es (cell c) of level some has =
      let found = one_read mask k 1 some in
      let at : found.leaf ≡ k = one_leaf found.leaf k found.inside in
      let y : mask k ≡ true = subst (λ (i : ℕ). mask i ≡ true) at found.read in
      rw (only_is r (d + 1) c (es k) (has k (among_first k 0) y ∙ here k (cell_at r (d + 1) c)), of) refl
  part_complete (scalar q) k mask r m d es (fields xs) of level some has = absurd of
  part_complete (scalar q) k mask r m d es (items xs) of level some has = absurd of
  part_complete (object_of gs) k mask r m d es empty of level some has = absurd (omega arith)
  part_complete (object_of gs) k mask r m d es (cell c) of level some has = absurd of
  part_complete (object_of gs) k mask r m d es (fields xs) of level some has = rw (fields_complete gs k mask r m (d + 1) es xs of has) refl
  part_complete (object_of gs) k mask r m d es (items xs) of level some has = absurd of
  part_complete (list_of n) k mask r m d es empty of level some has = absurd (omega arith)
  part_complete (list_of n) k mask r m d es (cell c) of level some has = absurd of
  part_complete (list_of n) k mask r m d es (fields xs) of level some has = absurd of
  part_complete (list_of n) k mask r m d es (items no_recs) of level some has =
      rw (are_null_from mask k (width n) r (d + 1) es (λ j a y. has j a y ∙ in_leaf_true _ (null_at r (d + 1)) a)) refl
  part_complete (list_of n) k mask r m d es (items (recs x xs)) of level some has =
      let deeper : (j : ℕ) → is_among j k (width n) ≡ true → mask j ≡ true → Begins r m (d + 2) (es j) = λ j a y. begins_at r m (d + 2) (es j) _ (has j a y) (part_begins (list_of n) k r m d (items (recs x xs)) j of a) in
      let whole = list_complete n k mask r m d es x xs (λ a y fs o h. complete n k mask a (m + 1) (d + 2) fs y o h) some of.0 of.1 has in
      rw (not_null_from mask k (width n) r (d + 1) m (d + 2) es some (omega arith) deeper, whole) refl

  pub fields_complete : (gs : Groups) (k : ℕ) (mask : ℕ → Bool) (r m d : ℕ) (es : ℕ → List Entry) (xs : Recs) → FieldsAreOf gs xs → Have mask k (groups_width gs) es (fields_entries gs k r m d xs) → fields_read gs k mask r m d es ≡ Some (fields_shown gs k mask xs)
  fields_complete no_groups k mask r m d es no_recs of has = refl
  fields_complete no_groups k mask r m d es (recs x xs) of has = absurd of
  fields_complete (field name n gs) k mask r m d es no_recs of has = absurd of
  fields_complete (field name n gs) k mask r m d es (recs x xs) of has =
      let first = complete n k mask r m d es x of.0 (λ j a y. has j (among_left j k (width n) (groups_width gs) a) y ∙ field_alone name n gs k r m d x xs j a) in
      let later = fields_complete gs (k + width n) mask r m d es xs of.1 (λ j a y. has j (among_right j k (width n) (groups_width gs) a) y ∙ fields_alone name n gs k r m d x xs j a) in
      rw (first, later) refl
