-- Comparing by parts.
use Rattle.std.proofs.Common.{◌≡◌, ◌∙◌, ◌⊎◌, inl, inr, refl, sym, ap, ℕ, ◌+◌, ◌-◌, ◌*◌, ◌/◌, ◌%◌, ◌^◌, ◌<◌, ◌≤◌, nat_cmp, Less, Equal, Greater, arith, mul-lt-mul_of_pos_right, mul-le-mul_right, ℤ, zero, suc, pos, negsuc, neg_ℤ, ◌*ℤ◌, int_lt, int_cmp, true, false, zero-lt-suc, mul-pos}
use Rattle.std.proofs.lemmas.Bool.{cases_order}
use Rattle.std.proofs.lemmas.Bool.Decides.{nat_tests}
use Rattle.exact_num.proofs.Powers.{ten_times, ten_some, ten_rises}

cmp_below : (x y : ℕ) → x < y → nat_cmp x y ≡ Less
cmp_below x y h = grind (arith, nat_tests)

cmp_above : (x y : ℕ) → y < x → nat_cmp x y ≡ Greater
cmp_above x y h = grind (arith, nat_tests)

cmp_same : (x y : ℕ) → x ≡ y → nat_cmp x y ≡ Equal
cmp_same x y h = grind (arith, nat_tests)

-- one order from another
pub cmp_by : (x y u v : ℕ) → (x < y → u < v) → (x ≡ y → u ≡ v) → (y < x → v < u) → nat_cmp x y ≡ nat_cmp u v
cmp_by x y u v less equal more = by (cases_order x y)
  where
    by : (x ≡ y) ⊎ ((x < y) ⊎ (y < x)) → nat_cmp x y ≡ nat_cmp u v
    by (inl e) = cmp_same x y e ∙ sym (cmp_same u v (equal e))
    by (inr (inl l)) = cmp_below x y l ∙ sym (cmp_below u v (less l))
    by (inr (inr l)) = cmp_above x y l ∙ sym (cmp_above u v (more l))

pub cmp_times : (x y k : ℕ) → 0 < k → nat_cmp x y ≡ nat_cmp (x * k) (y * k)
cmp_times x y k h = cmp_by x y (x * k) (y * k) (λ l. mul-lt-mul_of_pos_right l h) (λ e. ap (λ (n : ℕ). n * k) e) (λ l. mul-lt-mul_of_pos_right l h)

whole_below : (a b j k : ℕ) → 0 < j → 0 < k → a / j < b / k → a * k < b * j
whole_below a b j k some_j some_k h =
    let less : a * k < (a / j + 1) * j * k = mul-lt-mul_of_pos_right (let l : a < (a / j + 1) * j = omega arith in l) some_k in
    let more : b / k * k * j ≤ b * j = mul-le-mul_right j (let l : b / k * k ≤ b = omega arith in l) in
    let between : (a / j + 1) * (j * k) ≤ b / k * (j * k) = mul-le-mul_right (j * k) (let l : a / j + 1 ≤ b / k = omega arith in l) in
    omega arith

pub wholes_below : (a b s t : ℕ) → a / 10 ^ s < b / 10 ^ t → nat_cmp (a * 10 ^ t) (b * 10 ^ s) ≡ Less
wholes_below a b s t h = cmp_below (a * 10 ^ t) (b * 10 ^ s) (whole_below a b (10 ^ s) (10 ^ t) (ten_some s) (ten_some t) h)

pub wholes_above : (a b s t : ℕ) → b / 10 ^ t < a / 10 ^ s → nat_cmp (a * 10 ^ t) (b * 10 ^ s) ≡ Greater
wholes_above a b s t h = cmp_above (a * 10 ^ t) (b * 10 ^ s) (whole_below b a (10 ^ t) (10 ^ s) (ten_some t) (ten_some s) h)

-- a number is its whole part and its rest
parts_is : (a j k whole rest : ℕ) → a ≡ whole * j + rest → a * k ≡ whole * (j * k) + rest * k
parts_is a j k whole rest e = ap (λ (n : ℕ). n * k) e ∙ omega arith

pub wholes_same : (a b s t : ℕ) → a / 10 ^ s ≡ b / 10 ^ t → nat_cmp (a * 10 ^ t) (b * 10 ^ s) ≡ nat_cmp (a % 10 ^ s * 10 ^ t) (b % 10 ^ t * 10 ^ s)
wholes_same a b s t h =
    let some_s = ten_some s in
    let some_t = ten_some t in
    let left = parts_is a (10 ^ s) (10 ^ t) (a / 10 ^ s) (a % 10 ^ s) (omega arith) in
    let right = parts_is b (10 ^ t) (10 ^ s) (b / 10 ^ t) (b % 10 ^ t) (omega arith) in
    let wholes : a / 10 ^ s * (10 ^ s * 10 ^ t) ≡ b / 10 ^ t * (10 ^ t * 10 ^ s) = ap (λ (n : ℕ). n * (10 ^ s * 10 ^ t)) h ∙ omega arith in
    sym (cmp_by (a % 10 ^ s * 10 ^ t) (b % 10 ^ t * 10 ^ s) (a * 10 ^ t) (b * 10 ^ s) (λ l. omega arith) (λ e. omega arith) (λ l. omega arith))

pub rests_up : (a b s t : ℕ) → s ≤ t → nat_cmp (a * 10 ^ (t - s)) b ≡ nat_cmp (a * 10 ^ t) (b * 10 ^ s)
rests_up a b s t h =
    let sum : t ≡ t - s + s = omega arith in
    cmp_times (a * 10 ^ (t - s)) b (10 ^ s) (ten_some s) ∙ ap (λ (n : ℕ). nat_cmp n (b * 10 ^ s)) (sym (ten_times a (t - s) s) ∙ ap (λ (k : ℕ). a * 10 ^ k) (sym sum))

pub rests_down : (a b s t : ℕ) → t ≤ s → nat_cmp a (b * 10 ^ (s - t)) ≡ nat_cmp (a * 10 ^ t) (b * 10 ^ s)
rests_down a b s t h =
    let sum : s ≡ s - t + t = omega arith in
    cmp_times a (b * 10 ^ (s - t)) (10 ^ t) (ten_some t) ∙ ap (λ (n : ℕ). nat_cmp (a * 10 ^ t) n) (sym (ten_times b (s - t) t) ∙ ap (λ (k : ℕ). b * 10 ^ k) (sym sum))

pub rest_fits : (a s t : ℕ) → a < 10 ^ s → s ≤ t → t ≤ 38 → a * 10 ^ (t - s) < 10 ^ 38
rest_fits a s t h up few =
    let most = ten_rises t 38 few in
    let sum : 1 * 10 ^ t ≡ 1 * 10 ^ s * 10 ^ (t - s) = ap (λ (k : ℕ). 1 * 10 ^ k) (let e : t ≡ s + (t - s) = omega arith in e) ∙ ten_times 1 s (t - s) in
    let less : a * 10 ^ (t - s) < 10 ^ s * 10 ^ (t - s) = mul-lt-mul_of_pos_right h (ten_some (t - s)) in
    omega arith

-- Signed numbers.

pos_order : (m n : ℕ) → int_cmp (pos m) (pos n) ≡ nat_cmp m n
pos_order m n = grind (arith, nat_tests)

neg_order : (m n : ℕ) → int_cmp (neg_ℤ (pos m)) (neg_ℤ (pos n)) ≡ nat_cmp n m
neg_order zero zero = refl
neg_order zero (suc n) = grind (arith, nat_tests)
neg_order (suc m) zero = grind (arith, nat_tests)
neg_order (suc m) (suc n) = grind (arith, nat_tests)

neg_below : (m n : ℕ) → 0 < m → int_cmp (neg_ℤ (pos m)) (pos n) ≡ Less
neg_below zero n h = absurd (omega arith)
neg_below (suc m) n h = refl

neg_above : (m n : ℕ) → 0 < n → int_cmp (pos m) (neg_ℤ (pos n)) ≡ Greater
neg_above m zero h = absurd (omega arith)
neg_above m (suc n) h = refl

pub scale_order : (x y : ℤ) (k : ℕ) → 0 < k → int_cmp x y ≡ int_cmp (x *ℤ pos k) (y *ℤ pos k)
scale_order (pos m) (pos n) k h = pos_order m n ∙ cmp_times m n k h ∙ sym (pos_order (m * k) (n * k))
scale_order (pos m) (negsuc n) k h = sym (neg_above (m * k) (suc n * k) (mul-pos (zero-lt-suc n) h))
scale_order (negsuc m) (pos n) k h = sym (neg_below (suc m * k) (n * k) (mul-pos (zero-lt-suc m) h))
scale_order (negsuc m) (negsuc n) k h =
    neg_order (suc m) (suc n) ∙ cmp_times (suc n) (suc m) k h ∙ sym (neg_order (suc m * k) (suc n * k))

not_below : (n : ℕ) → int_lt (pos n) (pos 0) ≡ true → ⊥
not_below n e = grind (arith, nat_tests)

pub minus_order : (x y : ℤ) (j k : ℕ) → 0 < j → int_lt x (pos 0) ≡ true → int_lt y (pos 0) ≡ false → Less ≡ int_cmp (x *ℤ pos j) (y *ℤ pos k)
minus_order (pos m) y j k h e f = absurd (not_below m e)
minus_order (negsuc m) (pos n) j k h e f = sym (neg_below (suc m * j) (n * k) (mul-pos (zero-lt-suc m) h))
minus_order (negsuc m) (negsuc n) j k h e f = cc

pub plus_order : (x y : ℤ) (j k : ℕ) → 0 < k → int_lt x (pos 0) ≡ false → int_lt y (pos 0) ≡ true → Greater ≡ int_cmp (x *ℤ pos j) (y *ℤ pos k)
plus_order x (pos n) j k h e f = absurd (not_below n f)
plus_order (pos m) (negsuc n) j k h e f = sym (neg_above (m * j) (suc n * k) (mul-pos (zero-lt-suc n) h))
plus_order (negsuc m) (negsuc n) j k h e f = cc
