-- What digits and exponents amount to.
use Rattle.std.proofs.Common.{◌≡◌, ◌∙◌, refl, sym, ap, ℕ, ◌+◌, ◌-◌, ◌*◌, ◌^◌, ◌%◌, ◌<◌, ◌≤◌, List, [], ◌∷◌, ◌++◌, length, Bool, true, false, cond, Some, None, All, min, pos, ap₂, arith, inl, inr, ◌⊎◌}
use Rattle.std.proofs.lemmas.Bool.{cases_lt}
use Rattle.exact_num.specs.Decimal.{numbered}
use Rattle.exact_num.specs.Spelling.{Exponent, Written, IsDigit, digits_value, is_down, exponent_size, up, down}
use Rattle.exact_num.specs.Reading.{number_of}
use Rattle.exact_num.specs.Wide.{IsWide, IsCut}
use Rattle.exact_num.specs.declared.exponent.CutExponent.{CutExponent}
use Rattle.exact_num.proofs.Powers.{ten_times, ten_rises}
use Rattle.exact_num.proofs.Places.{far_up, far_down, wide_none, zero_numbered}
use Rattle.exact_num.proofs.Widths.{wide_left}

pub value_append : (n : ℕ) (xs ys : List ℕ) → digits_value n (xs ++ ys) ≡ digits_value (digits_value n xs) ys
value_append n [] ys = refl
value_append n (x ∷ xs) ys = value_append (n * 10 + (x - 48)) xs ys

pub wide_append : (n : ℕ) (xs ys : List ℕ) → All IsDigit ys → IsWide (digits_value n xs) → IsWide (digits_value n (xs ++ ys))
wide_append n xs ys all wide = rw value_append (wide_left ys 0 (digits_value n xs) all wide)

pub digit_fits : (v i : ℕ) → v < 10 ^ i → i < 18 → v < 10 ^ 17
digit_fits v i h less = let most = ten_rises i 17 (omega arith) in omega arith

pub digit_more : (v d i : ℕ) → v < 10 ^ i → d ≤ 9 → v * 10 + d < 10 ^ (i + 1)
digit_more v d i h less = let more = ten_times 1 i 1 in omega arith

abbrev parts : Bool → List ℕ → List ℕ → Exponent → Written
parts b whole fraction e = record { negative = b; whole = whole; fraction = fraction; power = e }

pub wide_number : (b : Bool) (whole fraction : List ℕ) (e : Exponent) → IsWide (digits_value 0 (whole ++ fraction)) → None ≡ number_of (parts b whole fraction e)
unfolding number_of
wide_number b whole fraction e wide = sym (wide_none b (digits_value 0 (whole ++ fraction)) (up e) (length fraction + down e) wide)

-- an exponent that is 0
plain_up : (p : CutExponent) (e : Exponent) → IsCut p e → p.size ≡ 0 → exponent_size e ≡ 0
plain_up p e cut none = omega (arith, cut.size)

pub plain_number : (b : Bool) (whole fraction : List ℕ) (p : CutExponent) (e : Exponent) → IsCut p e → p.size ≡ 0 → numbered b (digits_value 0 (whole ++ fraction)) (length fraction) ≡ number_of (parts b whole fraction e)
unfolding number_of
plain_number b whole fraction p e cut none = by (is_down e) (exponent_size e) (plain_up p e cut none)
  where
    by : (d : Bool) (s : ℕ) → s ≡ 0 → numbered b (digits_value 0 (whole ++ fraction)) (length fraction) ≡ numbered b (digits_value 0 (whole ++ fraction) * 10 ^ cond d 0 s) (length fraction + cond d s 0)
    by true s h = rw h (ap₂ (λ (n k : ℕ). numbered b n k) (omega arith) (omega arith))
    by false s h = rw h (ap₂ (λ (n k : ℕ). numbered b n k) (omega arith) (omega arith))

pub zero_number : (b : Bool) (whole fraction : List ℕ) (e : Exponent) (digits by : ℕ) → digits ≡ 0 → digits * 10 ^ by ≡ digits_value 0 (whole ++ fraction) → Some (record { unscaled = pos 0; scale = 0 }) ≡ number_of (parts b whole fraction e)
unfolding number_of
zero_number b whole fraction e digits k none is =
    let value : digits_value 0 (whole ++ fraction) * 10 ^ up e ≡ 0 = grind arith in
    sym (ap (λ (n : ℕ). numbered b n (length fraction + down e)) value ∙ zero_numbered b (length fraction + down e))

-- an exponent that is cut
cut_up : (b : Bool) (m zeros places size cut : ℕ) → 0 < m % 10 → places < 2 ^ 64 → cut ≡ min size (10 ^ 24) → numbered b (m * 10 ^ (zeros + cut)) places ≡ numbered b (m * 10 ^ (zeros + size)) (places + 0)
cut_up b m zeros places size cut lean short is = by (cases_lt size (10 ^ 24))
  where
    by : (size < 10 ^ 24) ⊎ (10 ^ 24 ≤ size) → numbered b (m * 10 ^ (zeros + cut)) places ≡ numbered b (m * 10 ^ (zeros + size)) (places + 0)
    by (inl near) = ap₂ (λ (i j : ℕ). numbered b (m * 10 ^ i) j) (omega arith) (omega arith)
    by (inr far) = far_up b m (zeros + cut) places (omega arith) (omega arith) ∙ sym (far_up b m (zeros + size) (places + 0) (omega arith) (omega arith))

cut_down : (b : Bool) (m zeros places size cut : ℕ) → 0 < m % 10 → zeros < 2 ^ 66 → cut ≡ min size (10 ^ 24) → numbered b (m * 10 ^ zeros) (places + cut) ≡ numbered b (m * 10 ^ (zeros + 0)) (places + size)
cut_down b m zeros places size cut lean short is = by (cases_lt size (10 ^ 24))
  where
    by : (size < 10 ^ 24) ⊎ (10 ^ 24 ≤ size) → numbered b (m * 10 ^ zeros) (places + cut) ≡ numbered b (m * 10 ^ (zeros + 0)) (places + size)
    by (inl near) = ap₂ (λ (i j : ℕ). numbered b (m * 10 ^ i) j) (omega arith) (omega arith)
    by (inr far) = far_down b m zeros (places + cut) (omega arith) (omega arith) ∙ sym (far_down b m (zeros + 0) (places + size) (omega arith) (omega arith))

pub up_number : (b : Bool) (whole fraction : List ℕ) (p : CutExponent) (e : Exponent) (m zeros : ℕ) → IsCut p e → p.down ≡ false → 0 < m % 10 → length fraction < 2 ^ 64 → m * 10 ^ zeros ≡ digits_value 0 (whole ++ fraction) → numbered b (m * 10 ^ (zeros + p.size)) (length fraction) ≡ number_of (parts b whole fraction e)
unfolding number_of
up_number b whole fraction p e m zeros cut sign lean short is = by (is_down e) (sym cut.sign ∙ sign)
  where
    by : (d : Bool) → d ≡ false → numbered b (m * 10 ^ (zeros + p.size)) (length fraction) ≡ numbered b (digits_value 0 (whole ++ fraction) * 10 ^ cond d 0 (exponent_size e)) (length fraction + cond d (exponent_size e) 0)
    by true h = cc
    by false h =
        cut_up b m zeros (length fraction) (exponent_size e) p.size lean short cut.size
        ∙ ap (λ (n : ℕ). numbered b n (length fraction + 0)) (ten_times m zeros (exponent_size e) ∙ ap (λ (n : ℕ). n * 10 ^ exponent_size e) is)

pub down_number : (b : Bool) (whole fraction : List ℕ) (p : CutExponent) (e : Exponent) (m zeros : ℕ) → IsCut p e → p.down ≡ true → 0 < m % 10 → zeros < 2 ^ 66 → m * 10 ^ zeros ≡ digits_value 0 (whole ++ fraction) → numbered b (m * 10 ^ zeros) (length fraction + p.size) ≡ number_of (parts b whole fraction e)
unfolding number_of
down_number b whole fraction p e m zeros cut sign lean short is = by (is_down e) (sym cut.sign ∙ sign)
  where
    by : (d : Bool) → d ≡ true → numbered b (m * 10 ^ zeros) (length fraction + p.size) ≡ numbered b (digits_value 0 (whole ++ fraction) * 10 ^ cond d 0 (exponent_size e)) (length fraction + cond d (exponent_size e) 0)
    by false h = cc
    by true h =
        cut_down b m zeros (length fraction) (exponent_size e) p.size lean short cut.size
        ∙ ap (λ (n : ℕ). numbered b n (length fraction + exponent_size e)) (ten_times m zeros 0 ∙ ap (λ (n : ℕ). n * 10 ^ 0) is)

pub lean_some : (d : ℕ) → (d % 10 ≡ 0 → d ≡ 0) → (d ≡ 0 → ⊥) → 0 < d % 10
lean_some d lean some = by (cases_lt 0 (d % 10))
  where
    by : (0 < d % 10) ⊎ (d % 10 ≤ 0) → 0 < d % 10
    by (inl h) = h
    by (inr h) = absurd (some (lean (omega arith)))
