-- Items that are written one after the other, and where they end.
use Rattle.std.proofs.Common.{◌≡◌, ◌∙◌, refl, sym, subst, ℕ, zero, suc, ◌+◌, ◌-◌, ◌<◌, ◌≤◌, List, [], ◌∷◌, ◌++◌, take, drop, get_or, length, length-append, append_assoc, append-nil, arith}
use Rattle.std.proofs.Math.Seq.{take-append_seam, drop-append_seam}
use Rattle.std.specs.List.{concat}
use Rattle.variant_meta.specs.Written.{ends_from}

-- Of `items`, written after `before`, the items `left` are missing from `bytes`, and their ends from `ends`.
pub record Gathers (before ends_before : List ℕ) (items : List (List ℕ)) (bytes ends : List ℕ) (left : List (List ℕ)) : Type 0 where
  pub first : length before ≤ length bytes
  pub bytes_are : bytes ++ concat left ≡ before ++ concat items
  pub ends_are : ends ++ ends_from (length bytes - length before) left ≡ ends_before ++ ends_from 0 items
  pub sum : (length bytes - length before) + length (concat left) ≡ length (concat items)

pub gathers_none : (before ends_before : List ℕ) (items : List (List ℕ)) → Gathers before ends_before items before ends_before items
gathers_none before ends_before items = record {
  first = omega arith;
  bytes_are = refl;
  ends_are = (let e : length before - length before ≡ 0 = omega arith in rw e refl);
  sum = omega arith;
}

pub gathers_more : (before ends_before : List ℕ) (items : List (List ℕ)) (bytes ends item : List ℕ) (left : List (List ℕ)) → Gathers before ends_before items bytes ends (item ∷ left) → Gathers before ends_before items (bytes ++ item) (ends ++ (length (bytes ++ item) - length before) ∷ []) left
gathers_more before ends_before items bytes ends item left g =
    let longer = length-append item (concat left) in
    let len = length-append bytes item in
    let first = g.first in
    let sum = g.sum in
    let place : length (bytes ++ item) - length before ≡ (length bytes - length before) + length item = omega (arith, len, first) in
    record {
      first = omega (arith, len, first);
      bytes_are = append_assoc bytes item (concat left) ∙ g.bytes_are;
      ends_are = rw place (append_assoc ends (((length bytes - length before) + length item) ∷ []) (ends_from ((length bytes - length before) + length item) left) ∙ g.ends_are);
      sum = omega (arith, longer, len, first, sum);
    }

-- nothing is missing
pub gathered_bytes : (before ends_before : List ℕ) (items : List (List ℕ)) (bytes ends : List ℕ) → Gathers before ends_before items bytes ends [] → bytes ≡ before ++ concat items
gathered_bytes before ends_before items bytes ends g = sym (append-nil bytes) ∙ g.bytes_are

pub gathered_ends : (before ends_before : List ℕ) (items : List (List ℕ)) (bytes ends : List ℕ) → Gathers before ends_before items bytes ends [] → ends ≡ ends_before ++ ends_from 0 items
gathered_ends before ends_before items bytes ends g = sym (append-nil ends) ∙ g.ends_are

-- one item more
pub gathers_next : (before ends_before : List ℕ) (items : List (List ℕ)) (bytes ends : List ℕ) (now left : List (List ℕ)) (item longer more : List ℕ) → Gathers before ends_before items bytes ends now → now ≡ item ∷ left → longer ≡ bytes ++ item → more ≡ ends ++ (length longer - length before) ∷ [] → Gathers before ends_before items longer more left
gathers_next before ends_before items bytes ends now left item longer more g is e f =
    let next = gathers_more before ends_before items bytes ends item left (subst (λ (xs : List (List ℕ)). Gathers before ends_before items bytes ends xs) is g) in
    rw (f, e) next

-- where it ends
pub next_end : (before ends_before : List ℕ) (items : List (List ℕ)) (bytes ends : List ℕ) (now left : List (List ℕ)) (item longer : List ℕ) → Gathers before ends_before items bytes ends now → now ≡ item ∷ left → longer ≡ bytes ++ item → (length before ≤ length longer) × (length longer - length before ≤ length (concat items))
next_end before ends_before items bytes ends now left item longer g is e =
    let next = gathers_next before ends_before items bytes ends now left item longer (ends ++ (length longer - length before) ∷ []) g is e refl in
    let first = next.first in
    let sum = next.sum in
    (omega (arith, first), omega (arith, sum))

-- What stands at the end.

pub stands : (before last all : List ℕ) (start : ℕ) → all ≡ before ++ last → start ≡ length before → drop start all ≡ last
stands before last all start e f = rw (e, f) (drop-append_seam before last)

pub stands_after : (before last all : List ℕ) (start : ℕ) → all ≡ before ++ last → start ≡ length before → take start all ≡ before
stands_after before last all start e f = rw (e, f) (take-append_seam before last)

ends_within : (start : ℕ) (items : List (List ℕ)) (k d : ℕ) → k < length (ends_from start items) → get_or (ends_from start items) k d ≤ start + length (concat items)
ends_within start [] k d inside = absurd (omega (arith, inside))
ends_within start (item ∷ items) zero d inside = let longer = length-append item (concat items) in omega (arith, longer)
ends_within start (item ∷ items) (suc k) d inside =
    let longer = length-append item (concat items) in
    let rest = ends_within (start + length item) items k d (omega (arith, inside)) in
    omega (arith, longer, rest)

-- each end is at most the last
pub ends_most : (items : List (List ℕ)) (k d : ℕ) → k < length (ends_from 0 items) → get_or (ends_from 0 items) k d ≤ length (concat items)
ends_most items k d inside = let within = ends_within 0 items k d inside in omega (arith, within)
