-- The digits that an index is printed with.
use Rattle.std.proofs.Common.{◌≡◌, inl, inr, refl, ℕ, zero, suc, ◌+◌, ◌/◌, ◌%◌, ◌^◌, ◌<◌, ◌≤◌, List, [], ◌∷◌, ◌++◌, length, length-append, decimal, pow-suc, arith}
use Rattle.std.specs.List.{AllByRecursion}
use Rattle.std.proofs.lemmas.Fmt.{decimal_by_steps_wide}
use Rattle.byte_parsing.specs.Words.{IsDigit, IsWhole}
use Rattle.exact_num.specs.Spelling.{digits_value}
use Rattle.exact_num.proofs.Values.{value_append}

digits_push : (ds : List ℕ) (d : ℕ) → AllByRecursion IsDigit ds → IsDigit d → AllByRecursion IsDigit (ds ++ d ∷ [])
digits_push [] d all h = (h, tt)
digits_push (x ∷ xs) d all h = (all.0, digits_push xs d all.1 h)

pub record IsPrinted (n : ℕ) (ds : List ℕ) : Type 0 where
  pub whole : IsWhole ds
  pub value : digits_value 0 ds ≡ n
  pub few : (k : ℕ) → 0 < k → n < 10 ^ k → length ds ≤ k

printed_one : (n : ℕ) → n < 10 → IsPrinted n ((48 + n) ∷ [])
printed_one zero h = record { whole = inl (refl, refl); value = refl; few = λ k some less. omega arith }
printed_one (suc n) h = record { whole = inr (omega arith, omega arith, tt); value = omega arith; few = λ k some less. omega arith }

whole_more : (ds : List ℕ) (d : ℕ) → IsWhole ds → 0 < digits_value 0 ds → IsDigit d → IsWhole (ds ++ d ∷ [])
whole_more [] d h some digit = absurd h
whole_more (x ∷ xs) d (inl (e, f)) some digit =
    let none : digits_value 0 (x ∷ xs) ≡ 0 = rw (e, f) refl in absurd (omega arith)
whole_more (x ∷ xs) d (inr (l, h, all)) some digit = inr (l, h, digits_push xs d all digit)

few_more : (n d : ℕ) (ds : List ℕ) → 10 ≤ n → ((k : ℕ) → 0 < k → n / 10 < 10 ^ k → length ds ≤ k) → (k : ℕ) → 0 < k → n < 10 ^ k → length (ds ++ d ∷ []) ≤ k
few_more n d ds h few zero some less = absurd (omega arith)
few_more n d ds h few (suc zero) some less = absurd (omega arith)
few_more n d ds h few (suc (suc k)) some less =
    let ten = pow-suc 10 (suc k) in
    let front : length ds ≤ suc k = few (suc k) (omega arith) (omega arith) in
    omega (arith, length-append ds (d ∷ []))

printed_more : (n : ℕ) (ds : List ℕ) → 10 ≤ n → IsPrinted (n / 10) ds → IsPrinted n (ds ++ ((48 + n % 10) ∷ []))
printed_more n ds h p = record {
  whole = whole_more ds (48 + n % 10) p.whole (omega (arith, p.value)) (omega arith, omega arith);
  value = let value = value_append 0 ds ((48 + n % 10) ∷ []) in omega (arith, value, p.value);
  few = few_more n (48 + n % 10) ds h p.few;
}

pub printed : (n : ℕ) → n < 10 ^ 64 → IsPrinted n (decimal n)
printed n h = decimal_by_steps_wide IsPrinted printed_one printed_more n h
