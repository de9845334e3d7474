-- Leaves that are passed by one part after the other.
use Rattle.std.proofs.Common.{Result, Ok, Err, IfOk, ◌≡◌, ◌∙◌, refl, sym, ap, subst, ℕ, ◌+◌, ◌-◌, ◌≤◌, ◌||◌, Bool, true, false, cond, List, [], ◌∷◌, length, slice_index_or, nat_lt, arith}
use Rattle.std.proofs.lemmas.Bool.Decides.{nat_tests}
use Rattle.vs_bytes.specs.declared.leaf_columns.Entry.{Entry}
use Rattle.shred_schema.specs.Ranges.{is_among, every}
use Rattle.shred_schema.proofs.LeafRanges.{right_not_left}
use Rattle.record_assembly.specs.Cuts.{until, beyond, first_item, later_items}
use Rattle.record_assembly.specs.Laws.{Have}
use Rattle.column_assembly.specs.Leaves.{heads, Passed}

both_parts : (j k x y : ℕ) → is_among j k (x + y) ≡ (is_among j k x || is_among j (k + x) y)
both_parts j k x y = grind (arith, nat_tests)

left_only : (j k x y : ℕ) → is_among j k x ≡ true → is_among j (k + x) y ≡ false
left_only j k x y = grind (arith, nat_tests)

taken_once : (m : ℕ) (p q : Bool) (es fs : List Entry) → fs ≡ cond p (later_items m es) es → (p ≡ true → q ≡ false) → cond q (later_items m fs) fs ≡ cond (p || q) (later_items m es) es
taken_once m true true es fs is h = let no : true ≡ false = h refl in cc
taken_once m true false es fs is h = is
taken_once m false true es fs is h = ap (later_items m) is
taken_once m false false es fs is h = is

pub passed_both : (a b c : List (List Entry)) (k x y m : ℕ) → Passed a b k x m → Passed b c (k + x) y m → Passed a c k (x + y) m
passed_both a b c k x y m p q = record {
  same = q.same ∙ p.same;
  each = λ j. q.each j ∙ (taken_once m (is_among j k x) (is_among j (k + x) y) _ _ (p.each j) (left_only j k x y) ∙ ap (λ (b : Bool). cond b (later_items m (slice_index_or a j [])) (slice_index_or a j [])) (sym (both_parts j k x y)));
}

-- what is passed of the leaves in front leaves those after them as they were
pub stays : (m : ℕ) (p : Bool) (es fs : List Entry) → p ≡ false → fs ≡ cond p (later_items m es) es → fs ≡ es
stays m true es fs e is = cc
stays m false es fs e is = is

pub goes : (m : ℕ) (p : Bool) (es fs : List Entry) → p ≡ true → fs ≡ cond p (later_items m es) es → fs ≡ later_items m es
goes m true es fs e is = is
goes m false es fs e is = cc

pub untouched : (a b : List (List Entry)) (k x y m n : ℕ) → Passed a b k x m → Have every (k + x) y (heads n a) (heads n b)
untouched a b k x y m n p = λ j i z. sym (ap (first_item n) (stays m (is_among j k x) _ _ (right_not_left j k x y i) (p.each j)))

-- a part of no leaves
pub passed_end : (a b : List (List Entry)) (k x y m : ℕ) → x ≡ y → Passed a b k x m → Passed a b k y m
passed_end a b k x y m e p = record { same = p.same; each = λ j. p.each j ∙ ap (λ (c : ℕ). cond (is_among j k c) (later_items m (slice_index_or a j [])) (slice_index_or a j [])) e }

-- Inside a list: of `count` leaves from k on some entries of the first item are taken, m being the level of the list.
pub record Between (old new : List (List Entry)) (k count m : ℕ) : Type 0 where
  pub same : length new ≡ length old
  pub out : (j : ℕ) → is_among j k count ≡ false → slice_index_or new j [] ≡ slice_index_or old j []
  pub here : (j : ℕ) → is_among j k count ≡ true → beyond m (slice_index_or new j []) ≡ later_items m (slice_index_or old j [])

stops : (m : ℕ) (es : List Entry) → until m es ≡ [] → beyond m es ≡ es
stops m [] h = refl
stops m (e ∷ es) h = by (nat_lt m e.rep) h
  where
    by : (b : Bool) → cond b (e ∷ until m es) [] ≡ [] → cond b (beyond m es) (e ∷ es) ≡ e ∷ es
    by true h = cc
    by false h = refl

-- where nothing goes on it, the item is taken
pub taken_whole : (a b : List (List Entry)) (k c m : ℕ) → Between a b k c m → ((j : ℕ) → is_among j k c ≡ true → until m (slice_index_or b j []) ≡ []) → Passed a b k c m
taken_whole a b k c m w none = record { same = w.same; each = λ j. by j (is_among j k c) refl }
  where
    by : (j : ℕ) (p : Bool) → is_among j k c ≡ p → slice_index_or b j [] ≡ cond p (later_items m (slice_index_or a j [])) (slice_index_or a j [])
    by j true e = sym (stops m (slice_index_or b j []) (none j e)) ∙ w.here j e
    by j false e = w.out j e

-- the leaves up to `at` are passed, and then those of a part that ends at `next`
pub passed_to : (a b c : List (List Entry)) (k at w next m : ℕ) → k ≤ at → next ≡ at + w → Passed a b k (at - k) m → Passed b c at w m → Passed a c k (next - k) m
passed_to a b c k at w next m h e p q =
    let here : at ≡ k + (at - k) = omega arith in
    let both = passed_both a b c k (at - k) w m p (subst (λ (i : ℕ). Passed b c i w m) here q) in
    passed_end a c k (at - k + w) (next - k) m (omega (arith, h, e)) both

pub passed_on : {A E : Type 0} (result : Result A E) (a b c : List (List Entry)) (k x y m : ℕ) → Passed a b k x m → IfOk result (λ _. Passed b c (k + x) y m) → IfOk result (λ _. Passed a c k (x + y) m)
passed_on (Ok r) a b c k x y m p h = passed_both a b c k x y m p h
passed_on (Err e) a b c k x y m p h = tt
