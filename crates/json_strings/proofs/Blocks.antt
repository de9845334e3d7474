-- Bytes that stand for themselves, a block after another.
use Rattle.std.proofs.Common.{◌≡◌, subst, ⊎_elim, ℕ, ◌+◌, ◌-◌, ◌<◌, ◌≤◌, List, true, take, drop, length, get_or, get_or-take, get_or-drop, length-take, length-drop, arith}
use Rattle.std.proofs.lemmas.Bool.{cases_lt}
use Rattle.json_strings.specs.Reading.{is_plain}

-- all bytes from one place up to another
abbrev pub ArePlain : List ℕ → ℕ → ℕ → Type 0
ArePlain text from at = (k : ℕ) → from ≤ k → k < at → is_plain (get_or text k 0) ≡ true

block_plain : (text : List ℕ) (at n k : ℕ) → k < n → ((j : ℕ) → j < n → is_plain (get_or (take n (drop at text)) j 0) ≡ true) → is_plain (get_or text (at + k) 0) ≡ true
block_plain text at n k l h = let here = h k l in rw (get_or-take, get_or-drop) at here

pub blocks_plain : (text : List ℕ) (from at n size : ℕ) → at + n ≤ length text → size ≡ n → ArePlain text from at → ((j : ℕ) → j < length (take size (drop at text)) → is_plain (get_or (take size (drop at text)) j 0) ≡ true) → ArePlain text from (at + n)
blocks_plain text from at n size fits e old block k low high = ⊎_elim (λ below. old k low below) here (cases_lt k at)
  where
    whole : (j : ℕ) → j < n → is_plain (get_or (take n (drop at text)) j 0) ≡ true
    whole j l =
        let room : length (take n (drop at text)) ≡ n = simp (length-take, length-drop) (omega arith) in
        rw e at (block j) (omega arith)

    here : at ≤ k → is_plain (get_or text k 0) ≡ true
    here above =
        let place : at + (k - at) ≡ k = omega arith in
        subst (λ i. is_plain (get_or text i 0) ≡ true) place (block_plain text at n (k - at) (omega arith) whole)
