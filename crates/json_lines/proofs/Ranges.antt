-- A range of a list, and the first byte in it that passes a test.
use Rattle.std.proofs.Common.{◌≡◌, ◌∙◌, ℕ, ◌+◌, ◌-◌, ◌<◌, ◌≤◌, Bool, List, ◌++◌, Some, None, get_or, take, drop, length, refl, sym, ap, inl, inr, arith}
use Rattle.std.specs.List.{slice_range}
use Rattle.std.proofs.lemmas.List.{drop-append-le, take-append-le, length-take-le, get_or-take, get_or-drop, drop-take, drop-drop, length-take, length-drop}
use Rattle.std.proofs.lemmas.Bool.{cases_lt}
use Rattle.std.proofs.Math.Seq.{take-append-add}
use Rattle.memchr.specs.Find.{Nowhere, Passes, IsFirstByte}

pub range_drop : (xs : List ℕ) (start count end : ℕ) → start + count ≤ end → slice_range xs (start + count) end ≡ drop count (slice_range xs start end)
range_drop xs start count end within =
    let left : ℕ = end - (start + count) in
    let whole : end - start ≡ count + left = omega arith in
    sym (ap (λ (n : ℕ). drop count (take n (drop start xs))) whole ∙ drop-take count left (drop start xs) ∙ ap (take left) (drop-drop count start xs))

pub range_length : (xs : List ℕ) (start end : ℕ) → end ≤ length xs → length (slice_range xs start end) ≡ end - start
range_length xs start end within = omega (arith, length-take (end - start) (drop start xs), length-drop start xs)

pub range_at : (xs : List ℕ) (start end k : ℕ) → start + k < end → get_or (slice_range xs start end) k 0 ≡ get_or xs (start + k) 0
range_at xs start end k within = get_or-take (end - start) (drop start xs) k 0 (omega arith) ∙ get_or-drop start xs k 0

-- the place k of a range, where j is its place in the list
pub range_passes : (test : ℕ → Bool) (xs : List ℕ) (start end k j : ℕ) → start + k ≡ j → j < end → Passes test (slice_range xs start end) k → Passes test xs j
range_passes test xs start end k j e within h = ap test (sym (range_at xs start end k (omega arith) ∙ ap (λ (n : ℕ). get_or xs n 0) e)) ∙ h

pub passes_range : (test : ℕ → Bool) (xs : List ℕ) (start end k j : ℕ) → start + k ≡ j → j < end → Passes test xs j → Passes test (slice_range xs start end) k
passes_range test xs start end k j e within h = ap test (range_at xs start end k (omega arith) ∙ ap (λ (n : ℕ). get_or xs n 0) e) ∙ h

module _ (test : ℕ → Bool) (xs : List ℕ) (start searched end : ℕ) where
  -- none from the start up to where the search began, and none up to `at` in what it saw
  pub plain_more : (at : ℕ) → searched + at ≤ end → Nowhere (Passes test xs) start searched → Nowhere (Passes test (slice_range xs searched end)) 0 at → Nowhere (Passes test xs) start (searched + at)
  plain_more at within before here k low high h =
      elim (cases_lt k searched) [
        | inl below ↦ before k low below h
        | inr above ↦ here (k - searched) (omega arith) (omega arith) (passes_range test xs searched end (k - searched) k (omega arith) (omega arith) h)
      ]

  -- the same, seen from the start of what is held
  pub plain_held : (stop : ℕ) → stop ≤ end → Nowhere (Passes test xs) start stop → Nowhere (Passes test (slice_range xs start end)) 0 (stop - start)
  plain_held stop within plain k low high h = plain (start + k) (omega arith) (omega arith) (range_passes test xs start end k (start + k) refl (omega arith) h)

  pub first_held : (at : ℕ) → start ≤ searched → searched ≤ end → end ≤ length xs → Nowhere (Passes test xs) start searched
      → IsFirstByte test (slice_range xs searched end) (Some at) → IsFirstByte test (slice_range xs start end) (Some (searched + at - start))
  first_held at low high within plain first =
      let size : length (slice_range xs searched end) ≡ end - searched = range_length xs searched end within in
      let whole : length (slice_range xs start end) ≡ end - start = range_length xs start end within in
      let inside : searched + at < end = omega (arith, first.0.high) in
      let more = plain_more at (omega arith) plain first.0.before in (
        record { low = omega arith; high = omega arith; before = plain_held (searched + at) (omega arith) more },
        passes_range test xs start end (searched + at - start) (searched + at) (omega arith) inside (range_passes test xs searched end at (searched + at) refl inside first.1),
      )

  pub none_searched : searched ≤ end → end ≤ length xs → Nowhere (Passes test xs) start searched → IsFirstByte test (slice_range xs searched end) None → Nowhere (Passes test xs) start end
  none_searched high within plain none =
      let size : length (slice_range xs searched end) ≡ end - searched = range_length xs searched end within in
      let more = plain_more (end - searched) (omega arith) plain (λ k low below h. none k low (omega arith) h) in
      λ k low below h. more k low (omega arith) h

  pub none_held : searched ≤ end → end ≤ length xs → Nowhere (Passes test xs) start searched → IsFirstByte test (slice_range xs searched end) None → IsFirstByte test (slice_range xs start end) None
  none_held high within plain none =
      let whole : length (slice_range xs start end) ≡ end - start = range_length xs start end within in
      let all = plain_held end (omega arith) (none_searched high within plain none) in
      λ k low below h. all k low (omega arith) h

-- ---- a read after the end

pub range_is : (xs : List ℕ) (start end : ℕ) → start ≤ end → slice_range xs start end ≡ drop start (take end xs)
range_is xs start end order = sym (ap (λ (n : ℕ). drop start (take n xs)) (omega arith) ∙ drop-take start (end - start) xs)

pub range_same : (xs ys : List ℕ) (start end : ℕ) → start ≤ end → take end ys ≡ take end xs → slice_range ys start end ≡ slice_range xs start end
range_same xs ys start end order e = range_is ys start end order ∙ ap (drop start) e ∙ sym (range_is xs start end order)

pub range_grown : (xs ys more : List ℕ) (start end count : ℕ) → start ≤ end → end ≤ length xs → take (end + count) ys ≡ take end xs ++ more → slice_range ys start (end + count) ≡ slice_range xs start end ++ more
range_grown xs ys more start end count order within e =
    let size : start ≤ length (take end xs) = omega (arith, length-take end xs) in
    range_is ys start (end + count) (omega arith) ∙ ap (drop start) e ∙ drop-append-le start (take end xs) more size ∙ ap (λ (s : List ℕ). s ++ more) (sym (range_is xs start end order))

pub passes_same : (test : ℕ → Bool) (xs ys : List ℕ) (end k : ℕ) → k < end → take end ys ≡ take end xs → Passes test ys k → Passes test xs k
passes_same test xs ys end k within e h =
    let same : get_or ys k 0 ≡ get_or xs k 0 = sym (get_or-take end ys k 0 within) ∙ ap (λ (s : List ℕ). get_or s k 0) e ∙ get_or-take end xs k 0 within in
    ap test (sym same) ∙ h

pub plain_same : (test : ℕ → Bool) (xs ys : List ℕ) (start searched end : ℕ) → searched ≤ end → take end ys ≡ take end xs → Nowhere (Passes test xs) start searched → Nowhere (Passes test ys) start searched
plain_same test xs ys start searched end order e plain k low high h = plain k low high (passes_same test xs ys end k (omega arith) e h)

-- what stands after a written part doesn't show before its end
pub written_front : (xs part behind : List ℕ) (from count : ℕ) → from ≤ length xs → count ≤ length part → take (from + count) (take from xs ++ (part ++ behind)) ≡ take from xs ++ take count part
written_front xs part behind from count within few =
    let front : length (take from xs) ≡ from = length-take-le from xs within in
    ap (λ (n : ℕ). take (n + count) (take from xs ++ (part ++ behind))) (sym front)
    ∙ take-append-add (take from xs) (part ++ behind) count
    ∙ ap (λ (s : List ℕ). take from xs ++ s) (take-append-le count part behind few)
