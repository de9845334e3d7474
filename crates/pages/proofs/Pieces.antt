-- Entries that are kept with the last one first, and given out in pieces.
use Rattle.std.proofs.Common.{◌≡◌, ◌∙◌, refl, sym, ap, ℕ, ◌+◌, ◌-◌, ◌==◌, cond, min, List, [], ◌∷◌, ◌++◌, length, take, drop, length-drop, reverse, append-nil, length-append, arith}
use Rattle.std.proofs.lemmas.List.{reverse-append, length-reverse, take-append-drop}
use Rattle.std.proofs.lemmas.List.Sorted.{IsPermutation-reverse, sum_by-IsPermutation}
use Rattle.vs_bytes.specs.declared.leaf_columns.Entry.{Entry}
use Rattle.pages.specs.RowStarts.{row_starts, begins_row}

pub piece_taken : (at : ℕ) (held : List Entry) → reverse held ≡ reverse (drop at held) ++ reverse (take at held)
piece_taken at held = ap reverse (sym (take-append-drop at held)) ∙ reverse-append (take at held) (drop at held)

pub piece_count : (most : ℕ) (held : List Entry) → length (reverse (drop (length held - most) held)) ≡ min most (length (reverse held))
piece_count most held =
    let piece = length-reverse (drop (length held - most) held) ∙ length-drop (length held - most) held in
    let all = length-reverse held in
    omega (arith, piece, all)

no_more : (es : List Entry) → length es ≡ 0 → es ≡ []
no_more [] is = refl
no_more (e ∷ es) is = absurd (omega (arith, is))

-- a piece of as many entries as are held is all of them
pub all_taken : (held piece later : List Entry) (count : ℕ) → count ≡ length held → held ≡ piece ++ later → length piece ≡ min count (length held) → piece ≡ held
all_taken held piece later count all is size =
    let whole : length held ≡ length piece + length later = ap length is ∙ length-append piece later in
    let none : later ≡ [] = no_more later (omega (arith, all, size, whole)) in
    sym (append-nil piece) ∙ ap (λ (es : List Entry). piece ++ es) (sym none) ∙ sym is

pub starts_reversed : (held : List Entry) → row_starts (reverse held) ≡ row_starts held
starts_reversed held = sum_by-IsPermutation (λ (e : Entry). cond (e.rep == 0) 1 0) held (reverse held) (IsPermutation-reverse held)

pub begins_reversed : (front : List Entry) (last : Entry) → begins_row (reverse (front ++ last ∷ [])) ≡ (last.rep == 0)
begins_reversed front last = ap begins_row (reverse-append front (last ∷ []))
