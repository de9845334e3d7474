-- A decimal of least scale.
use Rattle.std.proofs.Common.{◌≡◌, ◌∙◌, refl, sym, ap, ℕ, zero, suc, ◌+◌, ◌-◌, ◌*◌, ◌/◌, ◌%◌, ◌^◌, ◌<◌, ◌≤◌, ◌==◌, Bool, true, false, cond, arith, eqb-true, zero-add, sub-one, ℤ, pos, int_lt, unsigned_abs, subst, add_comm}
use Rattle.std.proofs.lemmas.Bool.Decides.{nat_tests}
use Rattle.exact_num.specs.Decimal.{Decimal, IsSame, signed, shortened, least}
use Rattle.exact_num.proofs.Powers.{ten_more, ten_times, ten_grows}
use Rattle.exact_num.proofs.Signs.{sign_back, signed_times}

-- zeros are taken off, and no zero is left where there are places
pub record IsShortened (n places : ℕ) (s : ℕ × ℕ) : Type 0 where
  pub zeros : ℕ
  pub split : s.1 + zeros ≡ places
  pub value : n ≡ s.0 * 10 ^ zeros
  pub lean : s.0 % 10 ≡ 0 → s.1 ≡ 0

pub shortened_is : (n places : ℕ) → IsShortened n places (shortened n places)
unfolding shortened
shortened_is n zero = record { zeros = 0; split = refl; value = omega arith; lean = λ _. refl }
shortened_is n (suc places) = by (n % 10 == 0) refl (shortened_is (n / 10) places)
  where
    by : (b : Bool) → (n % 10 == 0) ≡ b → IsShortened (n / 10) places (shortened (n / 10) places) → IsShortened n (suc places) (cond b (shortened (n / 10) places) (n, suc places))
    by true e h =
        let ends : n % 10 ≡ 0 = eqb-true (n % 10) 0 e in
        let more = ten_more (shortened (n / 10) places).0 h.zeros in
        record { zeros = suc h.zeros; split = omega (arith, h.split); value = omega (arith, h.value, more); lean = h.lean }
    by false e h = record { zeros = 0; split = omega arith; value = omega arith; lean = λ z. grind (arith, nat_tests) }

-- a zero less
pub shortened_ten : (n places : ℕ) → 0 < places → n % 10 ≡ 0 → shortened n places ≡ shortened (n / 10) (places - 1)
unfolding shortened
shortened_ten n zero h e = absurd (omega arith)
shortened_ten n (suc places) h e = rw (e, sub-one) refl

-- where no zero is at the end
pub shortened_lean : (n places : ℕ) → (n % 10 ≡ 0 → places ≡ 0) → shortened n places ≡ (n, places)
unfolding shortened
shortened_lean n zero h = refl
shortened_lean n (suc places) h = by (n % 10 == 0) refl
  where
    by : (b : Bool) → (n % 10 == 0) ≡ b → cond b (shortened (n / 10) places) (n, suc places) ≡ (n, suc places)
    by true e = absurd (let none : suc places ≡ 0 = h (eqb-true (n % 10) 0 e) in omega arith)
    by false e = refl

-- zeros at the end and as many places
pub shortened_zeros : (m k places : ℕ) → shortened (m * 10 ^ k) (k + places) ≡ shortened m places
shortened_zeros m zero places = ap (λ n. shortened n (0 + places)) (omega arith) ∙ ap (λ p. shortened m p) (zero-add places)
shortened_zeros m (suc k) places =
    let more = ten_more m k in
    let ends : m * 10 ^ suc k % 10 ≡ 0 = omega arith in
    let rest : m * 10 ^ suc k / 10 ≡ m * 10 ^ k = omega arith in
    let less : suc k + places - 1 ≡ k + places = omega arith in
    shortened_ten (m * 10 ^ suc k) (suc k + places) (omega arith) ends
    ∙ ap (λ n. shortened n (suc k + places - 1)) rest
    ∙ ap (λ p. shortened (m * 10 ^ k) p) less
    ∙ shortened_zeros m k places

-- what a pair that is computed so keeps
pub shortened_pair : (n places a b : ℕ) → (a, b) ≡ shortened n places → IsShortened n places (a, b)
shortened_pair n places a b e = subst (λ s. IsShortened n places s) (sym e) (shortened_is n places)

pub pair_size : (n places a b : ℕ) → (a, b) ≡ shortened n places → a ≤ n
pair_size n places a b e =
    let h = shortened_pair n places a b e in let more = ten_grows a h.zeros in omega (arith, h.value, more)

pub pair_places : (n places a b : ℕ) → (a, b) ≡ shortened n places → b ≤ places
pair_places n places a b e = let h = shortened_pair n places a b e in omega (arith, h.split)

pub pair_least : (n places a b : ℕ) → (a, b) ≡ shortened n places → a % 10 ≡ 0 → b ≡ 0
pair_least n places a b e = (shortened_pair n places a b e).lean

-- the value stays
pub least_same : (minus : Bool) (n places : ℕ) → IsSame (least minus n places) (record { unscaled = signed minus n; scale = places })
least_same minus n places =
    let s = shortened n places in
    let h = shortened_is n places in
    let sizes : s.0 * 10 ^ places ≡ n * 10 ^ s.1 =
    ap (λ p. s.0 * 10 ^ p) (sym h.split ∙ add_comm s.1 h.zeros) ∙ ten_times s.0 h.zeros s.1 ∙ ap (λ m. m * 10 ^ s.1) (sym h.value) in
    signed_times minus s.0 (10 ^ places) ∙ ap (λ m. signed minus m) sizes ∙ sym (signed_times minus n (10 ^ s.1))

pub integer_same : (z : ℤ) (places : ℕ) (d : Decimal) → d ≡ least (int_lt z (pos 0)) (unsigned_abs z) places → IsSame d (record { unscaled = z; scale = places })
integer_same z places d e =
    rw e (subst (λ (y : ℤ). IsSame (least (int_lt z (pos 0)) (unsigned_abs z) places) (record { unscaled = y; scale = places })) (sign_back z) (least_same (int_lt z (pos 0)) (unsigned_abs z) places))
