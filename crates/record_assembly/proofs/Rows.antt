-- Rows, read back from their entries in all leaves.
use Rattle.std.proofs.Common.{◌≡◌, ◌∙◌, refl, sym, ap, ap₂, ℕ, suc, ◌+◌, ◌<◌, ◌==◌, Bool, true, false, cond, List, [], ◌∷◌, ◌++◌, length, length-append, map, Option, Some, None, arith, inl, inr}
use Rattle.std.specs.List.{AllByRecursion}
use Rattle.vs_bytes.specs.declared.leaf_columns.Cell.TheVariants as leaf_cell
use Rattle.vs_bytes.specs.declared.leaf_columns.Entry.{Entry}
use Rattle.shred_schema.specs.Groups.{Group, width}
use Rattle.shred_schema.specs.Ranges.{is_among, none_read}
use Rattle.shred_schema.specs.Recs.{Rec, RowRec, absent, present}
use Rattle.shred_schema.specs.Shapes.{IsOf, RowIsOf}
use Rattle.shred_schema.proofs.LeafRanges.{among_one, among_first, among_left, among_right, left_not_right, right_not_left}
use Rattle.shred_schema.proofs.ReadLeaves.{read_from, read_at, fails_read, one_read}
use Rattle.level_striping.specs.Entries.{in_leaf, null_at, cell_at, entries, top_level, row_entries, stripes}
use Rattle.record_assembly.specs.Cuts.{is_nil}
use Rattle.record_assembly.specs.Laws.{Have, LeftOfRows}
use Rattle.record_assembly.specs.Reading.{is_null, items_read, longest, are_nil, are_null, with_meta, meta_read, read, present_read, row_read, rows_read}
use Rattle.record_assembly.specs.Shown.{shown, row_shown}
use Rattle.record_assembly.proofs.Cutting.{Begins, begins_one, begins_lower, begins_long, items_long}
use Rattle.record_assembly.proofs.Complete.{bytes_is, are_null_from, not_null_from, begins_at, longest_at, here, complete}
use Rattle.record_assembly.proofs.Found.{Found}
use Rattle.level_striping.proofs.OwnLeaves.{in_leaf_true, in_leaf_false, nil_left, nil_right, outside}
use Rattle.record_assembly.proofs.Leaves.{either, begins}
use Rattle.record_assembly.proofs.ReadItems.{Readable, items_complete, items_sound}
use Rattle.record_assembly.proofs.Sound.{IsReadIn, FoundRec, null_sound, bytes_sound, nil_sound, one_leaf, sound}

-- ---- the metadata and the record

module _ (o : Bool) (n : Group) (r : ℕ) (meta : List ℕ) (x : Rec) (j : ℕ) where
  meta_alone : is_among j 0 1 ≡ true → row_entries o n r (present meta x) j ≡ in_leaf (j == 0) (cell_at r (top_level o) (leaf_cell.Bytes meta))
  meta_alone a = nil_right _ _ (outside n 1 r 0 (top_level o) x j (left_not_right j 0 1 (width n) a))

  rec_alone : is_among j 1 (width n) ≡ true → row_entries o n r (present meta x) j ≡ entries n 1 r 0 (top_level o) x j
  rec_alone a = nil_left _ _ (in_leaf_false (j == 0) _ (sym (among_one j 0) ∙ right_not_left j 0 1 (width n) a))

present_begins : (o : Bool) (n : Group) (r : ℕ) (meta : List ℕ) (x : Rec) (j : ℕ) → IsOf n x → is_among j 0 (1 + width n) ≡ true → Begins r 0 (top_level o) (row_entries o n r (present meta x) j)
present_begins o n r meta x j of a =
    elim (either j 0 1 (width n) a) [
      | inl b ↦ begins_at r 0 (top_level o) _ _ (meta_alone o n r meta x j b ∙ in_leaf_true (j == 0) _ (sym (among_one j 0) ∙ b)) (begins_one r 0 (top_level o) _ refl (omega arith))
      | inr b ↦ begins_at r 0 (top_level o) _ _ (rec_alone o n r meta x j b) (begins n 1 r 0 (top_level o) x j of b)
    ]

row_begins : (o : Bool) (n : Group) (r : ℕ) (row : RowRec) (j : ℕ) → RowIsOf o n row → is_among j 0 (1 + width n) ≡ true → Begins r 0 0 (row_entries o n r row j)
row_begins o n r absent j of a = begins_at r 0 0 _ _ (in_leaf_true _ (null_at r 0) a) (begins_one r 0 0 _ refl (omega arith))
row_begins o n r (present meta x) j of a = begins_lower r 0 0 0 (top_level o) _ (omega arith) (omega arith) (present_begins o n r meta x j of a)

-- ---- a row is read from its entries

meta_complete : (b : Bool) (r d : ℕ) (meta : List ℕ) (es : List Entry) → (b ≡ true → es ≡ cell_at r d (leaf_cell.Bytes meta)) → meta_read b r d es ≡ Some (cond b meta [])
meta_complete true r d meta es are = bytes_is r d meta es (are refl)
meta_complete false r d meta es are = refl

present_complete : (o : Bool) (n : Group) (mask : ℕ → Bool) (r : ℕ) (es : ℕ → List Entry) (meta : List ℕ) (x : Rec) → IsOf n x → Have mask 0 (1 + width n) es (row_entries o n r (present meta x)) → present_read n mask r (top_level o) es ≡ Some (present (cond (mask 0) meta []) (shown n 1 mask x))
present_complete o n mask r es meta x of has =
    let first : mask 0 ≡ true → es 0 ≡ cell_at r (top_level o) (leaf_cell.Bytes meta) = λ y. has 0 (among_left 0 0 1 (width n) (among_first 0 0)) y ∙ (meta_alone o n r meta x 0 (among_first 0 0) ∙ here 0 (cell_at r (top_level o) (leaf_cell.Bytes meta))) in
    let rest : Have mask 1 (width n) es (entries n 1 r 0 (top_level o) x) = λ j a y. has j (among_right j 0 1 (width n) a) y ∙ rec_alone o n r meta x j a in
    rw (meta_complete (mask 0) r (top_level o) meta (es 0) first, complete n 1 mask r 0 (top_level o) es x of rest) refl

pub row_complete : (o : Bool) (n : Group) (mask : ℕ → Bool) (r : ℕ) (es : ℕ → List Entry) (row : RowRec) → RowIsOf o n row → none_read mask 0 (1 + width n) ≡ false → Have mask 0 (1 + width n) es (row_entries o n r row) → row_read o n mask r es ≡ Some (row_shown n mask row)
row_complete false n mask r es absent of some has = cc
row_complete false n mask r es (present meta x) of some has = present_complete false n mask r es meta x of has
row_complete true n mask r es absent of some has = rw (are_null_from mask 0 (1 + width n) r 0 es (λ j a y. has j a y ∙ in_leaf_true _ (null_at r 0) a)) refl
row_complete true n mask r es (present meta x) of some has =
    rw (not_null_from mask 0 (1 + width n) r 0 0 1 es some (omega arith) (λ j a y. begins_at r 0 1 (es j) _ (has j a y) (present_begins true n r meta x j of a))) (present_complete true n mask r es meta x of has)

-- ---- what is read is left of a row

abbrev pub FoundRow : Bool → Group → (ℕ → Bool) → ℕ → (ℕ → List Entry) → RowRec → Type 0
FoundRow o n mask r es q = Found {A = RowRec} {B = RowRec} (RowIsOf o n) (IsReadIn mask 0 (1 + width n)) (row_entries o n r) (row_shown n mask) es q

record FoundMeta (read : Bool) (r d : ℕ) (es : List Entry) (w : List ℕ) : Type 0 where
  one : List ℕ
  agree : read ≡ true → es ≡ cell_at r d (leaf_cell.Bytes one)
  is : cond read one [] ≡ w

meta_sound : (read : Bool) (r d : ℕ) (es : List Entry) (w : List ℕ) → meta_read read r d es ≡ Some w → FoundMeta read r d es w
meta_sound true r d es w h = record { one = w; agree = λ y. bytes_sound r d es w h; is = refl }
meta_sound false r d es w h = let none : [] ≡ w = cc in record { one = []; agree = λ y. cc; is = none }

record BothRead (x : Option (List ℕ)) (y : Option Rec) (q : RowRec) : Type 0 where
  left : List ℕ
  right : Rec
  left_is : x ≡ Some left
  right_is : y ≡ Some right
  whole : present left right ≡ q

both_read : (x : Option (List ℕ)) (y : Option Rec) (q : RowRec) → with_meta x y ≡ Some q → BothRead x y q
both_read None y q h = cc
both_read (Some meta) None q h = cc
both_read (Some meta) (Some x) q h = let same : present meta x ≡ q = cc in record { left = meta; right = x; left_is = refl; right_is = refl; whole = same }

row_joined : (o : Bool) (n : Group) (mask : ℕ → Bool) (r : ℕ) (es : ℕ → List Entry) (w : List ℕ) (x : Rec) (q : RowRec) → FoundMeta (mask 0) r (top_level o) (es 0) w → FoundRec n 1 mask r 0 (top_level o) es x → present w x ≡ q → FoundRow o n mask r es q
row_joined o n mask r es w x q v u whole = record {
  one = present v.one u.one;
  of = u.of;
  agree = λ j l. elim (either j 0 1 (width n) l.0) [
    | inl a ↦ first j (one_leaf j 0 a) a l.1 ∙ sym (meta_alone o n r v.one u.one j a)
    | inr a ↦ u.agree j (a, l.1) ∙ sym (rec_alone o n r v.one u.one j a)
  ];
  is = ap₂ present v.is u.is ∙ whole;
}
  where
    first : (j : ℕ) → j ≡ 0 → is_among j 0 1 ≡ true → mask j ≡ true → es j ≡ in_leaf (j == 0) (cell_at r (top_level o) (leaf_cell.Bytes v.one))
    first j same a y = ap es same ∙ (v.agree (sym (ap mask same) ∙ y) ∙ sym (in_leaf_true (j == 0) _ (sym (among_one j 0) ∙ a)))

present_sound : (o : Bool) (n : Group) (mask : ℕ → Bool) (r : ℕ) (es : ℕ → List Entry) (q : RowRec) → present_read n mask r (top_level o) es ≡ Some q → FoundRow o n mask r es q
present_sound o n mask r es q h =
    let b = both_read (meta_read (mask 0) r (top_level o) (es 0)) (read n 1 mask r 0 (top_level o) es) q h in
    row_joined o n mask r es b.left b.right q (meta_sound (mask 0) r (top_level o) (es 0) b.left b.left_is) (sound n 1 mask r 0 (top_level o) es b.right b.right_is) b.whole

pub row_sound : (o : Bool) (n : Group) (mask : ℕ → Bool) (r : ℕ) (es : ℕ → List Entry) (q : RowRec) → row_read o n mask r es ≡ Some q → FoundRow o n mask r es q
row_sound false n mask r es q h = present_sound false n mask r es q h
row_sound true n mask r es q h = by (are_null mask 0 (1 + width n) r 0 es) refl h
  where
    by : (b : Bool) → are_null mask 0 (1 + width n) r 0 es ≡ b → cond b (Some absent) (present_read n mask r 1 es) ≡ Some q → FoundRow true n mask r es q
    by true null g =
        let same : absent ≡ q = cc in
        record {
          one = absent;
          of = refl;
          agree = λ j l. null_sound r 0 (es j) (read_at mask 0 (1 + width n) (λ i. is_null r 0 (es i)) j null l.0 l.1) ∙ sym (in_leaf_true _ (null_at r 0) l.0);
          is = same;
        }
    by false null g = present_sound true n mask r es q g

-- ---- all rows of a column

all_nil : (mask : ℕ → Bool) (k c : ℕ) (es : ℕ → List Entry) → ((j : ℕ) → IsReadIn mask k c j → es j ≡ []) → are_nil mask k c es ≡ true
all_nil mask k c es h = read_from mask k c (λ j. is_nil (es j)) (λ j a y. ap is_nil (h j (a, y)))

some_left : (mask : ℕ → Bool) (k c : ℕ) (es : ℕ → List Entry) → none_read mask k c ≡ false → ((j : ℕ) → IsReadIn mask k c j → is_nil (es j) ≡ false) → are_nil mask k c es ≡ false
some_left mask k c es some h = fails_read mask k c (λ j. is_nil (es j)) some (λ j a y. h j (a, y))

some_is : (es xs ys : List Entry) (r m d : ℕ) → es ≡ xs ++ ys → Begins r m d xs → is_nil es ≡ false
some_is es xs ys r m d e b = rw (e, b.whole) refl

rows_complete_some : (o : Bool) (n : Group) (mask : ℕ → Bool) (es : ℕ → List Entry) (x : RowRec) (xs : List RowRec) → none_read mask 0 (1 + width n) ≡ false → RowIsOf o n x → AllByRecursion (RowIsOf o n) xs → Have mask 0 (1 + width n) es (stripes o n (x ∷ xs)) → rows_read o n mask es ≡ Some (map (row_shown n mask) (x ∷ xs))
rows_complete_some o n mask es x xs some of all has =
    rw (some_left mask 0 (1 + width n) es some (λ j l. some_is (es j) (row_entries o n 0 x j) (stripes o n xs j) 0 0 0 (has j l.0 l.1) (row_begins o n 0 x j of l.0)))
    (items_complete {A = RowRec} {B = RowRec} (λ a y j. row_entries o n a y j) (row_read o n mask) (row_shown n mask) (RowIsOf o n) (IsReadIn mask 0 (1 + width n)) 0 0 (are_nil mask 0 (1 + width n)) known xs x (suc (longest 0 (1 + width n) es)) 0 es of all fits (λ j l. has j l.0 l.1))
  where
    known : Readable {A = RowRec} {B = RowRec} (λ a y j. row_entries o n a y j) (row_read o n mask) (row_shown n mask) (RowIsOf o n) (IsReadIn mask 0 (1 + width n)) 0 0 (are_nil mask 0 (1 + width n))
    known = record {
      begin = λ a y j p l. row_begins o n a y j p l.0;
      reads = λ a y fs p h. row_complete o n mask a fs y p some (λ j i z. h j (i, z));
      ends = λ fs h. all_nil mask 0 (1 + width n) fs h;
      goes = λ fs h. some_left mask 0 (1 + width n) fs some h;
    }

    fits : length xs < suc (longest 0 (1 + width n) es)
    fits =
        let found = one_read mask 0 (1 + width n) some in
        let j = found.leaf in
        let first = begins_long 0 0 0 (row_entries o n 0 x j) (row_begins o n 0 x j of found.inside) in
        let later = items_long (RowIsOf o n) (λ y. row_entries o n 0 y j) (λ y p. begins_long 0 0 0 (row_entries o n 0 y j) (row_begins o n 0 y j p found.inside)) xs all in
        let most = longest_at j 0 (1 + width n) es found.inside in
        let sum = length-append (row_entries o n 0 x j) (stripes o n xs j) in
        let whole = ap length (has j found.inside found.read) in
        omega (arith, first, later, most, sum, whole)

pub rows_complete : (o : Bool) (n : Group) (mask : ℕ → Bool) (es : ℕ → List Entry) (rows : List RowRec) → none_read mask 0 (1 + width n) ≡ false → AllByRecursion (RowIsOf o n) rows → Have mask 0 (1 + width n) es (stripes o n rows) → rows_read o n mask es ≡ Some (map (row_shown n mask) rows)
rows_complete o n mask es [] some all has = rw (all_nil mask 0 (1 + width n) es (λ j l. has j l.0 l.1)) refl
rows_complete o n mask es (x ∷ xs) some all has = rows_complete_some o n mask es x xs some all.0 all.1 has

pub rows_sound : (o : Bool) (n : Group) (mask : ℕ → Bool) (es : ℕ → List Entry) (qs : List RowRec) → rows_read o n mask es ≡ Some qs → LeftOfRows o n mask es qs
rows_sound o n mask es qs h = by (are_nil mask 0 (1 + width n) es) refl h
  where
    ends : (fs : ℕ → List Entry) → are_nil mask 0 (1 + width n) fs ≡ true → (j : ℕ) → IsReadIn mask 0 (1 + width n) j → fs j ≡ []
    ends fs e j l = nil_sound (fs j) (read_at mask 0 (1 + width n) (λ i. is_nil (fs i)) j e l.0 l.1)

    by : (b : Bool) → are_nil mask 0 (1 + width n) es ≡ b → cond b (Some []) (items_read (row_read o n mask) (are_nil mask 0 (1 + width n)) 0 (suc (longest 0 (1 + width n) es)) 0 es) ≡ Some qs → LeftOfRows o n mask es qs
    by true e g = let same : [] ≡ qs = cc in record { rows = []; of = tt; have = λ j a y. ends es e j (a, y); left = same }
    by false e g =
        let f = items_sound {A = RowRec} {B = RowRec} (λ a x j. row_entries o n a x j) (row_read o n mask) (row_shown n mask) (RowIsOf o n) (IsReadIn mask 0 (1 + width n)) 0 (are_nil mask 0 (1 + width n)) (λ a fs x i. row_sound o n mask a fs x i) ends (suc (longest 0 (1 + width n) es)) 0 es qs g in
        record { rows = f.head ∷ f.tail; of = (f.of, f.all); have = λ j a y. f.agree j (a, y); left = f.is }
