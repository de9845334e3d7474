-- Leaves of which the first items were taken, one after the other.
use Rattle.std.proofs.Common.{◌≡◌, ◌∙◌, refl, sym, ap, ℕ, suc, ◌+◌, ◌-◌, ◌<◌, ◌≤◌, ◌==◌, ◌||◌, Bool, true, false, cond, List, [], slice_index_or, arith}
use Rattle.std.proofs.lemmas.Bool.Decides.{nat_tests}
use Rattle.vs_bytes.specs.declared.leaf_columns.Entry.{Entry}
use Rattle.shred_schema.specs.Ranges.{is_among, every}
use Rattle.shred_schema.proofs.LeafRanges.{among_none, among_one}
use Rattle.record_assembly.specs.Cuts.{first_item, later_items}
use Rattle.record_assembly.specs.Reading.{is_null, are_null}
use Rattle.column_assembly.specs.Leaves.{heads, TakenAt, Passed}

-- a range of leaves grows by one
one_more : (j from at : ℕ) → from ≤ at → is_among j from (at + 1 - from) ≡ (is_among j from (at - from) || (j == at))
one_more j from at h = grind (arith, nat_tests)

not_both : (j from at : ℕ) → from ≤ at → is_among j from (at - from) ≡ true → (j == at) ≡ false
not_both j from at h = grind (arith, nat_tests)

not_yet : (from at : ℕ) → from ≤ at → is_among at from (at - from) ≡ false
not_yet from at h = grind (arith, nat_tests)

taken_once : (m : ℕ) (p q : Bool) (es fs : List Entry) → fs ≡ cond p (later_items m es) es → (p ≡ true → q ≡ false) → cond q (later_items m fs) fs ≡ cond (p || q) (later_items m es) es
taken_once m true true es fs is h = let no : true ≡ false = h refl in cc
taken_once m true false es fs is h = is
taken_once m false true es fs is h = ap (later_items m) is
taken_once m false false es fs is h = is

pub passed_more : (a b c : List (List Entry)) (from at m : ℕ) → from ≤ at → Passed a b from (at - from) m → TakenAt b c at m → Passed a c from (at + 1 - from) m
passed_more a b c from at m h x y = record {
  same = y.same ∙ x.same;
  each = λ j. y.each j ∙ (taken_once m (is_among j from (at - from)) (j == at) _ _ (x.each j) (not_both j from at h) ∙ ap (λ (p : Bool). cond p (later_items m (slice_index_or a j [])) (slice_index_or a j [])) (sym (one_more j from at h)));
}

left : (m : ℕ) (p : Bool) (es fs : List Entry) → p ≡ false → fs ≡ cond p (later_items m es) es → fs ≡ es
left m true es fs e is = cc
left m false es fs e is = is

nulls_on : (r d at to : ℕ) (es : ℕ → List Entry) → at < to → is_null r d (es at) ≡ true → are_null every (at + 1) (to - (at + 1)) r d es ≡ are_null every at (to - at) r d es
nulls_on r d at to es h null = let more : to - at ≡ suc (to - (at + 1)) = omega arith in rw (more, null) refl

pub nulls_more : (a b : List (List Entry)) (r d m from at to : ℕ) → from ≤ at → at < to → Passed a b from (at - from) m → is_null r d (heads m b at) ≡ true → are_null every (at + 1) (to - (at + 1)) r d (heads m a) ≡ are_null every at (to - at) r d (heads m a)
nulls_more a b r d m from at to h less x null = nulls_on r d at to (heads m a) less (sym (ap (λ es. is_null r d (first_item m es)) (left m (is_among at from (at - from)) _ _ (not_yet from at h) (x.each at))) ∙ null)

pub passed_none : (a : List (List Entry)) (k m : ℕ) → Passed a a k 0 m
passed_none a k m = record { same = refl; each = λ j. ap (λ (p : Bool). cond p (later_items m (slice_index_or a j [])) (slice_index_or a j [])) (sym (among_none j k)) }

pub passed_one : (a b : List (List Entry)) (k m : ℕ) → TakenAt a b k m → Passed a b k 1 m
passed_one a b k m x = record { same = x.same; each = λ j. x.each j ∙ ap (λ (p : Bool). cond p (later_items m (slice_index_or a j [])) (slice_index_or a j [])) (sym (among_one j k)) }
