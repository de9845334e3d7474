-- Rows of a projected column, and how they are taken leaf by leaf.
use Rattle.std.proofs.Common.{◌≡◌, ◌∙◌, refl, sym, ap, ap₂, subst, ℕ, suc, zero, ◌+◌, ◌≤◌, Bool, true, false, cond, List, [], Option, Some, None, zero-add, arith}
use Rattle.vs_bytes.specs.declared.leaf_columns.Entry.{Entry}
use Rattle.shred_schema.specs.Groups.{Group, width}
use Rattle.shred_schema.specs.Projection.{count_read, projected}
use Rattle.shred_schema.specs.Ranges.{every}
use Rattle.shred_schema.specs.Recs.{Rec, absent}
use Rattle.shred_schema.proofs.LeafRanges.{among_right}
use Rattle.shred_schema.proofs.Projected.{count_split, tested_at_places, width_projected}
use Rattle.record_assembly.specs.Laws.{Have}
use Rattle.record_assembly.specs.Reading.{is_null, bytes_read, are_null, read, with_meta, meta_read, present_read, row_read}
use Rattle.record_assembly.proofs.Complete.{reaches_more}
use Rattle.record_assembly.proofs.Same.{read_same}
use Rattle.record_assembly.proofs.Sound.{null_sound}
use Rattle.column_assembly.specs.Leaves.{heads, Passed}
use Rattle.record_taking.proofs.FirstLeaf.{among_here, read_begins}
use Rattle.record_taking.proofs.Joined.{passed_both, passed_end, untouched}
use Rattle.row_assembler.specs.ProjectedRows.{meta_width, present_kept, row_kept}
use Rattle.row_assembler.proofs.ReadProjected.{AtPlaces, read_projected}

-- ---- a row that is read under a mask is read of the projected column

pub kept_count : (n : Group) (mask : ℕ → Bool) → count_read mask 0 (1 + width n) ≡ meta_width (mask 0) + width (projected n 1 mask)
kept_count n mask = count_split mask 0 1 (width n) ∙ ap (λ w. meta_width (mask 0) + w) (sym (width_projected n 1 mask))

present_projected : (n : Group) (mask : ℕ → Bool) (d : ℕ) (es fs : ℕ → List Entry) → AtPlaces mask 0 (1 + width n) es fs → present_kept (mask 0) (projected n 1 mask) d fs ≡ present_read n mask 0 d es
present_projected n mask d es fs at =
    ap₂ with_meta
    (by (mask 0) (λ e. at 0 (among_here 0 (1 + width n) (omega arith)) e))
    (read_projected n 1 mask 0 0 d es fs (λ j a z. at j (among_right j 0 1 (width n) a) z))
  where
    by : (b : Bool) → (b ≡ true → fs 0 ≡ es 0) → meta_read b 0 d (fs 0) ≡ meta_read b 0 d (es 0)
    by true h = ap (meta_read true 0 d) (h refl)
    by false h = refl

pub row_projected : (o : Bool) (n : Group) (mask : ℕ → Bool) (es fs : ℕ → List Entry) → AtPlaces mask 0 (1 + width n) es fs → row_kept (mask 0) o (projected n 1 mask) fs ≡ row_read o n mask 0 es
row_projected false n mask es fs at = present_projected n mask 0 es fs at
row_projected true n mask es fs at =
    let null : are_null every 0 (count_read mask 0 (1 + width n)) 0 0 fs ≡ are_null mask 0 (1 + width n) 0 0 es = tested_at_places mask 0 (1 + width n) (λ j. is_null 0 0 (es j)) (λ j. is_null 0 0 (fs j)) (λ j a z. ap (is_null 0 0) (at j a z)) in
    ap₂ (λ b r. cond b (Some absent) r) (ap (λ c. are_null every 0 c 0 0 fs) (sym (kept_count n mask)) ∙ null) (present_projected n mask 1 es fs at)

-- ---- the first leaf says whether a row is there

no_bytes : (es : List Entry) → is_null 0 0 es ≡ true → bytes_read 0 1 es ≡ None
no_bytes es h = ap (bytes_read 0 1) (null_sound 0 0 es h)

not_begun : (meta : Bool) (n : Group) (es : ℕ → List Entry) → 1 ≤ meta_width meta + width n → is_null 0 0 (es 0) ≡ true → present_kept meta n 1 es ≡ None
not_begun true n es some null = ap (λ v. with_meta v (read n 1 every 0 0 1 es)) (no_bytes (es 0) null)
not_begun false n es some null = ap (λ x. with_meta (Some []) x) (by (read n 0 every 0 0 1 es) refl)
  where
    by : (o : Option Rec) → read n 0 every 0 0 1 es ≡ o → o ≡ None
    by None e = refl
    by (Some q) e = let no : true ≡ false = sym null ∙ reaches_more 0 0 0 1 (es 0) (omega arith) (read_begins n 0 0 0 1 es q e 0 (among_here 0 (width n) (omega (arith, some)))) in cc

not_all : (c : ℕ) (es : ℕ → List Entry) → 1 ≤ c → is_null 0 0 (es 0) ≡ false → are_null every 0 c 0 0 es ≡ false
not_all zero es some there = absurd (omega (arith, some))
not_all (suc c) es some there = rw there refl

module _ (meta : Bool) (n : Group) (es : ℕ → List Entry) (c : ℕ) (all : c ≡ meta_width meta + width n) where
  pub row_there : 1 ≤ c → is_null 0 0 (es 0) ≡ false → row_kept meta true n es ≡ present_kept meta n 1 es
  row_there some there = ap (λ b. cond b (Some absent) (present_kept meta n 1 es)) (not_all (meta_width meta + width n) es (omega (arith, some, all)) there)

  pub row_absent : are_null every 0 c 0 0 es ≡ true → row_kept meta true n es ≡ Some absent
  row_absent null = ap (λ b. cond b (Some absent) (present_kept meta n 1 es)) (ap (λ w. are_null every 0 w 0 0 es) (sym all) ∙ null)

  pub row_broken : 1 ≤ c → is_null 0 0 (es 0) ≡ true → are_null every 0 c 0 0 es ≡ false → row_kept meta true n es ≡ None
  row_broken some null rest = ap (λ b. cond b (Some absent) (present_kept meta n 1 es)) (ap (λ w. are_null every 0 w 0 0 es) (sym all) ∙ rest) ∙ not_begun meta n es (omega (arith, some, all)) null

-- ---- the metadata is taken, and then the record

pub present_taken : (meta : Bool) (n : Group) (d first : ℕ) (a b : List (List Entry)) (v : List ℕ) (o : Option Rec) → first ≡ meta_width meta → meta_read meta 0 d (heads 0 a 0) ≡ Some v → Passed a b 0 (meta_width meta) 0 → read n first every 0 0 d (heads 0 b) ≡ o → present_kept meta n d (heads 0 a) ≡ with_meta (Some v) o
present_taken meta n d first a b v o is bytes p found =
    let same : Have every (meta_width meta) (width n) (heads 0 a) (heads 0 b) = subst (λ (i : ℕ). Have every i (width n) (heads 0 a) (heads 0 b)) (zero-add (meta_width meta)) (untouched a b 0 (meta_width meta) (width n) 0 0 p) in
    ap₂ with_meta bytes (read_same n (meta_width meta) every 0 0 d (heads 0 a) (heads 0 b) same ∙ (ap (λ i. read n i every 0 0 d (heads 0 b)) (sym is) ∙ found))

pub meta_missing : (meta : Bool) (n : Group) (d : ℕ) (es : ℕ → List Entry) → meta_read meta 0 d (es 0) ≡ None → present_kept meta n d es ≡ None
meta_missing meta n d es none = ap (λ v. with_meta v (read n (meta_width meta) every 0 0 d es)) none

pub row_passed : (a b c : List (List Entry)) (x first y w m : ℕ) → first ≡ x → w ≡ x + y → Passed a b 0 x m → Passed b c first y m → Passed a c 0 w m
row_passed a b c x first y w m is all p q =
    passed_end a c 0 (x + y) w m (sym all) (passed_both a b c 0 x y m p (subst (λ (i : ℕ). Passed b c i y m) (is ∙ sym (zero-add x)) q))
