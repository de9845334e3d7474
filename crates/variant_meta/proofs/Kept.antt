-- Names in order, each once: their count and their bytes.
use Rattle.std.proofs.Common.{◌≡◌, ◌∙◌, refl, sym, ap, ℕ, suc, ◌+◌, ◌≤◌, List, [], ◌∷◌, ◌++◌, length, Bool, true, false, cond, sum_by, IsPermutation, arith}
use Rattle.std.specs.List.{concat, flat_map, dedup, dedup_from}
use Rattle.std.specs.List.Sorted.{IsStrictlySortedBy}
use Rattle.std.specs.Cmp.Lexicographic.{slice_cmp}
use Rattle.std.specs.Ordering.{nat_cmp}
use Rattle.std.proofs.lemmas.List.{length-append}
use Rattle.std.proofs.lemmas.List.Concat.{length-flat_map}
use Rattle.std.proofs.lemmas.List.Sorted.{sum_by-IsPermutation}
use Rattle.variant_meta.specs.Names.{names_rise, rise_after}

concat_is : (names : List (List ℕ)) → concat names ≡ flat_map (λ x. x) names
concat_is [] = refl
concat_is (name ∷ names) = ap (λ (xs : List ℕ). name ++ xs) (concat_is names)

pub total_is : (names : List (List ℕ)) → length (concat names) ≡ sum_by (λ x. length x) names
total_is names = ap length (concat_is names) ∙ length-flat_map (λ (x : List ℕ). x) names

-- sorting keeps both
pub total_sorted : (xs ys : List (List ℕ)) → IsPermutation xs ys → length (concat ys) ≡ length (concat xs)
total_sorted xs ys h = total_is ys ∙ sum_by-IsPermutation (λ x. length x) xs ys h ∙ sym (total_is xs)

module _ (same : List ℕ → List ℕ → Bool) where
  -- taking names away makes neither greater
  fewer_from : (k : List ℕ) (xs : List (List ℕ)) → length (dedup_from same k xs) ≤ suc (length xs)
  fewer_from k [] = omega arith
  fewer_from k (x ∷ xs) = by (same x k) (fewer_from k xs) (fewer_from x xs)
    where
      by : (b : Bool) → length (dedup_from same k xs) ≤ suc (length xs) → length (dedup_from same x xs) ≤ suc (length xs) → length (cond b (dedup_from same k xs) (k ∷ dedup_from same x xs)) ≤ suc (suc (length xs))
      by true h g = omega (arith, h)
      by false h g = omega (arith, g)

  less_from : (k : List ℕ) (xs : List (List ℕ)) → length (concat (dedup_from same k xs)) ≤ length k + length (concat xs)
  less_from k [] = let e = length-append k [] in omega (arith, e)
  less_from k (x ∷ xs) = by (same x k) (less_from k xs) (less_from x xs)
    where
      by : (b : Bool) → length (concat (dedup_from same k xs)) ≤ length k + length (concat xs) → length (concat (dedup_from same x xs)) ≤ length x + length (concat xs) → length (concat (cond b (dedup_from same k xs) (k ∷ dedup_from same x xs))) ≤ length k + length (concat (x ∷ xs))
      by true h g = let e = length-append x (concat xs) in omega (arith, h, e)
      by false h g =
          let e = length-append x (concat xs) in
          let f = length-append k (concat (dedup_from same x xs)) in
          omega (arith, g, e, f)

  pub fewer : (xs : List (List ℕ)) → length (dedup same xs) ≤ length xs
  fewer [] = omega arith
  fewer (x ∷ xs) = fewer_from x xs

  pub less : (xs : List (List ℕ)) → length (concat (dedup same xs)) ≤ length (concat xs)
  less [] = omega arith
  less (x ∷ xs) = let h = less_from x xs in let e = length-append x (concat xs) in omega (arith, h, e)

-- The two words for names in order.

rise_from_sorted : (name : List ℕ) (names : List (List ℕ)) → IsStrictlySortedBy (slice_cmp nat_cmp) (name ∷ names) → rise_after name names ≡ true
unfolding IsStrictlySortedBy
rise_from_sorted name [] h = refl
rise_from_sorted name (other ∷ names) h = rw (h.0.0) (rise_from_sorted other names h.1)

pub rise_sorted : (names : List (List ℕ)) → IsStrictlySortedBy (slice_cmp nat_cmp) names → names_rise names ≡ true
rise_sorted [] h = refl
rise_sorted (name ∷ names) h = rise_from_sorted name names h
