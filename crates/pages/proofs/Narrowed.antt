-- Levels that are stored one by one.
use Rattle.std.proofs.Common.{◌≡◌, ◌∙◌, sym, ap, ℕ, ◌+◌, ◌<◌, List, [], ◌∷◌, ◌++◌, length, take, slice_index, slice_set, arith}
use Rattle.std.proofs.Math.Seq.{take-length}
use Rattle.std.proofs.lemmas.List.{take_more, take_more_set}

pub one_more : (narrow levels : List ℕ) (i : ℕ) → i < length levels → length narrow ≡ length levels → take i narrow ≡ take i levels → take (i + 1) (slice_set narrow i (slice_index levels i)) ≡ take (i + 1) levels
one_more narrow levels i inside size done =
    take_more_set narrow i (slice_index levels i) (omega (arith, inside, size))
    ∙ ap (λ (xs : List ℕ). xs ++ slice_index levels i ∷ []) done
    ∙ sym (take_more levels i 0 inside)

pub all_stored : (narrow levels : List ℕ) (n : ℕ) → n ≡ length levels → length narrow ≡ length levels → take n narrow ≡ take n levels → narrow ≡ levels
all_stored narrow levels n all size done =
    sym (take-length narrow)
    ∙ ap (λ (k : ℕ). take k narrow) (size ∙ sym all)
    ∙ done
    ∙ ap (λ (k : ℕ). take k levels) all
    ∙ take-length levels
