-- Leaves that are marked one by one.
use Rattle.std.proofs.Common.{◌≡◌, ◌≢◌, ◌∙◌, sym, ap, refl, ℕ, ◌+◌, ◌≤◌, ◌<◌, ◌==◌, ◌||◌, ◌&&◌, Bool, true, false, List, length, set, get_or-set_other, arith}
use Rattle.std.specs.Prelude.{nat_le, nat_lt}
use Rattle.std.proofs.lemmas.Bool.Decides.{nat_tests}
use Rattle.std.proofs.lemmas.Grind.{get_or-set_at}
use Rattle.shred_schema.specs.Ranges.{is_among, reads}
use Rattle.chunk_pruning.specs.Marks.{IsMarked}

-- leaf j is from `first` on, and before `end`
abbrev pub is_before : ℕ → ℕ → ℕ → Bool
is_before first end j = nat_le first j && nat_lt j end

or_false : (b c : Bool) → c ≡ false → b ≡ (b || c)
or_false true c e = refl
or_false false c e = sym e

or_true : (b c : Bool) → c ≡ true → true ≡ (b || c)
or_true true c e = refl
or_true false c e = sym e

none_before : (first j : ℕ) → is_before first first j ≡ false
none_before first j = grind (arith, nat_tests)

last_before : (first leaf j : ℕ) → first ≤ leaf → (j == leaf) ≡ true → is_before first (leaf + 1) j ≡ true
last_before first leaf j h e = grind (arith, nat_tests)

others_before : (first leaf j : ℕ) → (j == leaf) ≡ false → is_before first (leaf + 1) j ≡ is_before first leaf j
others_before first leaf j e = grind (arith, nat_tests)

is_equal : (j k : ℕ) → (j == k) ≡ true → j ≡ k
is_equal j k e = grind (arith, nat_tests)

is_other : (j k : ℕ) → (j == k) ≡ false → j ≢ k
is_other j k e = grind (arith, nat_tests)

pub none_marked : (mask : List Bool) (first : ℕ) → IsMarked mask (is_before first first) mask
none_marked mask first = record { each = λ j. or_false (reads mask j) (is_before first first j) (none_before first j) }

marked_at : (old new : List Bool) (first leaf j : ℕ) (b : Bool) → (j == leaf) ≡ b → first ≤ leaf → leaf < length new
    → reads new j ≡ (reads old j || is_before first leaf j) → reads (set new leaf true) j ≡ (reads old j || is_before first (leaf + 1) j)
marked_at old new first leaf j true e h within m =
    get_or-set_at new leaf j true false (is_equal j leaf e) within ∙ or_true (reads old j) (is_before first (leaf + 1) j) (last_before first leaf j h e)
marked_at old new first leaf j false e h within m =
    get_or-set_other new leaf j true false (is_other j leaf e) ∙ m ∙ ap (λ b. reads old j || b) (sym (others_before first leaf j e))

pub one_marked : (old new : List Bool) (first leaf : ℕ) → first ≤ leaf → leaf < length new → IsMarked old (is_before first leaf) new → IsMarked old (is_before first (leaf + 1)) (set new leaf true)
one_marked old new first leaf h within m = record { each = λ j. marked_at old new first leaf j (j == leaf) refl h within (m.each j) }

pub all_marked : (old new : List Bool) (first count end : ℕ) → first + count ≤ end → end ≤ first + count → IsMarked old (is_before first end) new → IsMarked old (λ j. is_among j first count) new
all_marked old new first count end h g m = let same : end ≡ first + count = omega arith in record { each = λ j. rw same at (m.each j) }
