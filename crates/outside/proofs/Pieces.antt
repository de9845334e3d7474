-- One piece after another.
use Rattle.std.proofs.Common.{◌≡◌, ◌∙◌, ◌+◌, ◌-◌, ◌≤◌, ℕ, List, ◌++◌, Option, take, drop, length, sym, ap, subst, arith}
use Rattle.std.specs.Io.KnownBytes.{Appends}
use Rattle.std.proofs.KnownBytes.{Appends-trans}
use Rattle.std.proofs.lemmas.List.{take-take, take_at, length-take-le, length-drop, drop-drop, take-append-drop}
use Rattle.std.proofs.Math.Seq.{take-add}

-- the first n bytes from a place on, after those before that place
pub appends_on : (a b c : Option (List ℕ)) (bytes : List ℕ) (at n : ℕ) → at + n ≤ length bytes → Appends a b (take at bytes)
    → Appends b c (take n (take (length bytes - at) (drop at bytes))) → Appends a c (take (at + n) bytes)
appends_on a b c bytes at n fits before more =
    let same : take n (take (length bytes - at) (drop at bytes)) ≡ take n (drop at bytes) = take-take n (length bytes - at) (drop at bytes) (omega arith) in
    subst (λ (s : List ℕ). Appends a c s) (sym (take-add at n bytes)) (Appends-trans a b c (take at bytes) (take n (drop at bytes)) before (subst (λ (s : List ℕ). Appends b c s) same more))

-- what is left from a place on is the copy of its first n bytes, at the front of some buffer, and what stands after them
pub split_at : (bytes copied behind left : List ℕ) (at n : ℕ) → left ≡ drop at bytes → at + n ≤ length bytes → copied ≡ take (at + n - at) (drop at bytes)
    → left ≡ take n (copied ++ behind) ++ drop (at + n) bytes
split_at bytes copied behind left at n is within copy =
    let front : copied ≡ take n (drop at bytes) = copy ∙ ap (λ (k : ℕ). take k (drop at bytes)) (omega arith) in
    let size : length copied ≡ n = ap length front ∙ length-take-le n (drop at bytes) (omega (arith, length-drop at bytes)) in
    let given : take n (copied ++ behind) ≡ take n (drop at bytes) = take_at copied behind n size ∙ front in
    is ∙ sym (ap (λ (s : List ℕ). s ++ drop (at + n) bytes) given ∙ ap (λ (s : List ℕ). take n (drop at bytes) ++ s) (sym (drop-drop n at bytes)) ∙ take-append-drop n (drop at bytes))
