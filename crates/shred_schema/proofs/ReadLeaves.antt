-- Tests on the leaves of a range, and on those that are read.
use Rattle.std.proofs.Common.{◌≡◌, ◌∙◌, sym, ap, ap₂, subst, refl, ℕ, zero, suc, ◌+◌, ◌<◌, Bool, true, false, true≢false, not, ◌&&◌, ◌||◌, ◌⊎◌, inl, inr, ⊎_elim, zero-add, add-zero, arith}
use Rattle.std.proofs.lemmas.Bool.Decides.{nat_tests}
use Rattle.shred_schema.specs.Ranges.{is_among, all_leaves, every, each_read, none_read, is_any_read}
use Rattle.shred_schema.proofs.LeafRanges.{among_first, among_rest}

-- a test passes or not
pub bool_cases : (b : Bool) → (b ≡ true) ⊎ (b ≡ false)
bool_cases true = inl refl
bool_cases false = inr refl

both : (a b : Bool) → a ≡ true → b ≡ true → (a && b) ≡ true
both a b p q = rw (p, q) refl

left_of : (a b : Bool) → (a && b) ≡ true → a ≡ true
left_of true b h = refl
left_of false b h = h

right_of : (a b : Bool) → (a && b) ≡ true → b ≡ true
right_of true b h = h
right_of false b h = absurd (true≢false (sym h))

and_assoc : (a b c : Bool) → (a && (b && c)) ≡ ((a && b) && c)
and_assoc true b c = refl
and_assoc false b c = refl

only_first : (j k c : ℕ) → is_among j k (suc c) ≡ true → is_among j (k + 1) c ≡ false → j ≡ k
only_first j k c = grind (arith, nat_tests)

among_split : (j k c : ℕ) → is_among j k (suc c) ≡ true → (j ≡ k) ⊎ (is_among j (k + 1) c ≡ true)
among_split j k c a = by (is_among j (k + 1) c) refl where
  by : (b : Bool) → is_among j (k + 1) c ≡ b → (j ≡ k) ⊎ (is_among j (k + 1) c ≡ true)
  by true e = inr e
  by false e = inl (only_first j k c a e)

-- The test on all leaves.

pub all_from : (k c : ℕ) (p : ℕ → Bool) → ((j : ℕ) → is_among j k c ≡ true → p j ≡ true) → all_leaves k c p ≡ true
all_from k zero p h = refl
all_from k (suc c) p h = both (p k) (all_leaves (k + 1) c p) (h k (among_first k c)) (all_from (k + 1) c p (λ j a. h j (among_rest j k c a)))

pub all_at : (k c : ℕ) (p : ℕ → Bool) (j : ℕ) → all_leaves k c p ≡ true → is_among j k c ≡ true → p j ≡ true
all_at k zero p j h a = none (among_zero j k) where
  among_zero : (j k : ℕ) → is_among j k 0 ≡ false
  among_zero j k = grind (arith, nat_tests)

  none : is_among j k 0 ≡ false → p j ≡ true
  none e = absurd (true≢false (sym a ∙ e))
all_at k (suc c) p j h a =
    ⊎_elim (λ e. subst (λ i. p i ≡ true) (sym e) (left_of (p k) (all_leaves (k + 1) c p) h)) (λ b. all_at (k + 1) c p j (right_of (p k) (all_leaves (k + 1) c p) h) b) (among_split j k c a)

pub all_same : (k c : ℕ) (p q : ℕ → Bool) → ((j : ℕ) → is_among j k c ≡ true → p j ≡ q j) → all_leaves k c p ≡ all_leaves k c q
all_same k zero p q h = refl
all_same k (suc c) p q h = ap₂ (λ a b. a && b) (h k (among_first k c)) (all_same (k + 1) c p q (λ j a. h j (among_rest j k c a)))

pub all_split : (k a b : ℕ) (p : ℕ → Bool) → all_leaves k (a + b) p ≡ (all_leaves k a p && all_leaves (k + a) b p)
all_split k zero b p = ap₂ (λ i n. all_leaves i n p) (sym (add-zero k)) (zero-add b)
all_split k (suc a) b p =
    let count : suc a + b ≡ suc (a + b) = omega arith in
    let place : k + 1 + a ≡ k + suc a = omega arith in
    ap (λ n. all_leaves k n p) count ∙ ap (λ rest. p k && rest) (all_split (k + 1) a b p) ∙ and_assoc (p k) (all_leaves (k + 1) a p) (all_leaves (k + 1 + a) b p) ∙ ap (λ i. (p k && all_leaves (k + 1) a p) && all_leaves i b p) place

pub fails_at : (k c : ℕ) (p : ℕ → Bool) (j : ℕ) → is_among j k c ≡ true → p j ≡ false → all_leaves k c p ≡ false
fails_at k c p j a f = by (all_leaves k c p) refl where
  by : (b : Bool) → all_leaves k c p ≡ b → all_leaves k c p ≡ false
  by true e = absurd (true≢false (sym (all_at k c p j e a) ∙ f))
  by false e = e

-- a leaf of the range that doesn't pass
pub record Fails (k c : ℕ) (p : ℕ → Bool) : Type 0 where
  pub leaf : ℕ
  pub inside : is_among leaf k c ≡ true
  pub fails : p leaf ≡ false

first_fails : (k c : ℕ) (p : ℕ → Bool) (b : Bool) → p k ≡ b → (b && all_leaves (k + 1) c p) ≡ false → (all_leaves (k + 1) c p ≡ false → Fails (k + 1) c p) → Fails k (suc c) p
first_fails k c p false e h later = record { leaf = k; inside = among_first k c; fails = e }
first_fails k c p true e h later =
    let one = later h in
    record { leaf = one.leaf; inside = among_rest one.leaf k c one.inside; fails = one.fails }

pub one_fails : (k c : ℕ) (p : ℕ → Bool) → all_leaves k c p ≡ false → Fails k c p
one_fails k zero p h = absurd (true≢false h)
one_fails k (suc c) p h = first_fails k c p (p k) refl h (λ later. one_fails (k + 1) c p later)

-- The tests on leaves that are read.

pub read_from : (mask : ℕ → Bool) (k c : ℕ) (p : ℕ → Bool) → ((j : ℕ) → is_among j k c ≡ true → mask j ≡ true → p j ≡ true) → each_read mask k c p ≡ true
read_from mask k c p h = all_from k c (λ j. not (mask j) || p j) (λ j a. passes (mask j) (p j) (h j a)) where
  passes : (m t : Bool) → (m ≡ true → t ≡ true) → (not m || t) ≡ true
  passes true t h = h refl
  passes false t h = refl

pub read_at : (mask : ℕ → Bool) (k c : ℕ) (p : ℕ → Bool) (j : ℕ) → each_read mask k c p ≡ true → is_among j k c ≡ true → mask j ≡ true → p j ≡ true
read_at mask k c p j h a r = passes (mask j) (p j) (all_at k c (λ i. not (mask i) || p i) j h a) r where
  passes : (m t : Bool) → (not m || t) ≡ true → m ≡ true → t ≡ true
  passes true t h e = h
  passes false t h e = absurd (true≢false (sym e))

pub none_from : (mask : ℕ → Bool) (k c : ℕ) → ((j : ℕ) → is_among j k c ≡ true → mask j ≡ false) → none_read mask k c ≡ true
none_from mask k c h = all_from k c (λ j. not (mask j)) (λ j a. ap not (h j a))

pub none_at : (mask : ℕ → Bool) (k c j : ℕ) → none_read mask k c ≡ true → is_among j k c ≡ true → mask j ≡ false
none_at mask k c j h a = turned (mask j) (all_at k c (λ i. not (mask i)) j h a) where
  turned : (m : Bool) → not m ≡ true → m ≡ false
  turned true e = absurd (true≢false (sym e))
  turned false e = refl

pub none_passes : (mask : ℕ → Bool) (k c : ℕ) (p : ℕ → Bool) → none_read mask k c ≡ true → each_read mask k c p ≡ true
none_passes mask k c p h = read_from mask k c p (λ j a r. absurd (true≢false (sym r ∙ none_at mask k c j h a)))

-- a leaf of the range that is read
pub record IsRead (mask : ℕ → Bool) (k c : ℕ) : Type 0 where
  pub leaf : ℕ
  pub inside : is_among leaf k c ≡ true
  pub read : mask leaf ≡ true

pub one_read : (mask : ℕ → Bool) (k c : ℕ) → none_read mask k c ≡ false → IsRead mask k c
one_read mask k c h =
    let one = one_fails k c (λ j. not (mask j)) h in
    record { leaf = one.leaf; inside = one.inside; read = turned (mask one.leaf) one.fails }
  where
    turned : (m : Bool) → not m ≡ false → m ≡ true
    turned true e = refl
    turned false e = absurd (true≢false e)

pub fails_read : (mask : ℕ → Bool) (k c : ℕ) (p : ℕ → Bool) → none_read mask k c ≡ false → ((j : ℕ) → is_among j k c ≡ true → mask j ≡ true → p j ≡ false) → each_read mask k c p ≡ false
fails_read mask k c p h f =
    let one = one_read mask k c h in
    fails_at k c (λ j. not (mask j) || p j) one.leaf one.inside (fails (mask one.leaf) (p one.leaf) one.read (f one.leaf one.inside one.read))
  where
    fails : (m t : Bool) → m ≡ true → t ≡ false → (not m || t) ≡ false
    fails m t r e = rw (r, e) refl

pub some_read : (mask : ℕ → Bool) (k c j : ℕ) → is_among j k c ≡ true → mask j ≡ true → none_read mask k c ≡ false
some_read mask k c j a r = fails_at k c (λ i. not (mask i)) j a (ap not r)

pub none_split : (mask : ℕ → Bool) (k a b : ℕ) → none_read mask k (a + b) ≡ (none_read mask k a && none_read mask (k + a) b)
none_split mask k a b = all_split k a b (λ j. not (mask j))

-- where the tests on read leaves are the same, so is the test on all
pub read_same : (mask : ℕ → Bool) (k c : ℕ) (p q : ℕ → Bool) → ((j : ℕ) → is_among j k c ≡ true → mask j ≡ true → p j ≡ q j) → each_read mask k c p ≡ each_read mask k c q
read_same mask k c p q h = all_same k c (λ j. not (mask j) || p j) (λ j. not (mask j) || q j) (λ j a. same (mask j) (p j) (q j) (h j a)) where
  same : (m a b : Bool) → (m ≡ true → a ≡ b) → (not m || a) ≡ (not m || b)
  same true a b e = e refl
  same false a b e = refl

-- where each leaf is read, all tests are tests on all leaves
pub every_read : (k c : ℕ) (p : ℕ → Bool) → each_read every k c p ≡ all_leaves k c p
every_read k c p = refl

pub any_of_every : (k c : ℕ) → 0 < c → is_any_read every k c ≡ true
any_of_every k zero h = absurd (omega arith)
any_of_every k (suc c) h = refl
