-- Signs.
use Rattle.std.proofs.Common.{◌≡◌, ◌∙◌, refl, sym, ap, zero-mul, ℕ, zero, suc, ◌*◌, Bool, true, false, ℤ, pos, negsuc, neg_ℤ, ◌*ℤ◌, unsigned_abs, int_lt, arith, ◌<◌, ◌⊎◌, inl, inr, mul-lt-mul_of_pos_right, mul-pos, zero-lt-suc, mul_right_comm}
use Rattle.std.proofs.lemmas.Int.{unsigned_abs-mul}
use Rattle.std.proofs.lemmas.Bool.{cases_order}
use Rattle.std.proofs.lemmas.Bool.Decides.{nat_tests}
use Rattle.exact_num.specs.Decimal.{signed}

pub signed_abs : (b : Bool) (n : ℕ) → unsigned_abs (signed b n) ≡ n
signed_abs true zero = refl
signed_abs true (suc n) = refl
signed_abs false n = refl

pub sign_back : (z : ℤ) → signed (int_lt z (pos 0)) (unsigned_abs z) ≡ z
sign_back (pos n) = grind (arith, nat_tests)
sign_back (negsuc n) = refl

pub signed_times : (b : Bool) (n k : ℕ) → signed b n *ℤ pos k ≡ signed b (n * k)
signed_times true zero k = rw (zero-mul) refl
signed_times true (suc n) k = refl
signed_times false n k = refl

pub times_cancel : (m n k : ℕ) → 0 < k → m * k ≡ n * k → m ≡ n
times_cancel m n k h e = by (cases_order m n)
  where
    by : (m ≡ n) ⊎ ((m < n) ⊎ (n < m)) → m ≡ n
    by (inl e) = e
    by (inr (inl l)) = absurd (let more : m * k < n * k = mul-lt-mul_of_pos_right l h in omega arith)
    by (inr (inr l)) = absurd (let more : n * k < m * k = mul-lt-mul_of_pos_right l h in omega arith)

signs_apart : (m n : ℕ) → 0 < n → pos m ≡ neg_ℤ (pos n) → ⊥
signs_apart m zero h e = omega arith
signs_apart m (suc n) h e = cc

pub cancel_ℤ : (x y : ℤ) (k : ℕ) → 0 < k → x *ℤ pos k ≡ y *ℤ pos k → x ≡ y
cancel_ℤ (pos m) (pos n) k h e = ap pos (times_cancel m n k h (ap unsigned_abs e))
cancel_ℤ (pos m) (negsuc n) k h e = absurd (signs_apart (m * k) (suc n * k) (mul-pos (zero-lt-suc n) h) e)
cancel_ℤ (negsuc m) (pos n) k h e = absurd (signs_apart (n * k) (suc m * k) (mul-pos (zero-lt-suc m) h) (sym e))
cancel_ℤ (negsuc m) (negsuc n) k h e =
    let sizes : suc m * k ≡ suc n * k = sym (signed_abs true (suc m * k)) ∙ ap unsigned_abs e ∙ signed_abs true (suc n * k) in
    ap (λ a. neg_ℤ (pos a)) (times_cancel (suc m) (suc n) k h sizes)

-- factors change places
pub swap_ℤ : (z : ℤ) (j k : ℕ) → z *ℤ pos j *ℤ pos k ≡ z *ℤ pos k *ℤ pos j
swap_ℤ (pos n) j k = ap pos (mul_right_comm n j k)
swap_ℤ (negsuc n) j k = signed_times true (suc n * j) k ∙ ap (λ (m : ℕ). signed true m) (mul_right_comm (suc n) j k) ∙ sym (signed_times true (suc n * k) j)

pub abs_times : (z : ℤ) (k : ℕ) → unsigned_abs (z *ℤ pos k) ≡ unsigned_abs z * k
abs_times z k = unsigned_abs-mul z (pos k)
