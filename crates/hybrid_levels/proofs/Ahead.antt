-- Parts that are read in turn.
use Rattle.std.proofs.Common.{◌≡◌, ◌∙◌, refl, sym, ap, ℕ, zero, suc, ◌+◌, ◌-◌, ◌<◌, ◌≤◌, List, [], ◌++◌, length, drop, Result, Ok, Err, append-nil, arith}
use Rattle.std.proofs.lemmas.List.{drop-drop, length-drop, nil_from_length}
use Rattle.vs_bytes.specs.Outcome.{◌>>=◌}
use Rattle.vs_bytes.specs.PartsInTurn.{after}
use Rattle.vs_bytes.proofs.PartsInTurn.{after_none, after_after}
use Rattle.vs_bytes.specs.declared.rule.Rule.{Rule}
use Rattle.vs_bytes.specs.declared.rule.Rule.TheVariants.{RunShort}
use Rattle.hybrid_levels.specs.Hybrid.{header, part_header, front_part, parts, decoded}

-- what was read, in front of what the bytes from `at` on give, is all
pub record Ahead (width count : ℕ) (bytes : List ℕ) (at filled : ℕ) (found : List ℕ) : Type 0 where
  pub most : ℕ
  pub enough : length bytes ≤ at + most
  pub whole : after found at (parts width most (count - filled) (drop at bytes)) ≡ decoded width count bytes

pub at_start : (width count : ℕ) (bytes : List ℕ) → Ahead width count bytes 0 0 []
at_start width count bytes = record {
  most = length bytes;
  enough = omega arith;
  whole = let all : count - 0 ≡ count = omega arith in rw all (after_none (parts width (length bytes) count bytes));
}

pub at_end : (width count : ℕ) (bytes : List ℕ) (at filled : ℕ) (found : List ℕ) → count ≤ filled → Ahead width count bytes at filled found → decoded width count bytes ≡ Ok (found, at)
at_end width count bytes at filled found done ahead =
    let none : count - filled ≡ 0 = omega (arith, done) in
    let last : at + 0 ≡ at = omega arith in
    sym ahead.whole
    ∙ ap (λ (k : ℕ). after found at (parts width ahead.most k (drop at bytes))) none
    ∙ rw (append-nil found, last) refl

-- no part has no bytes
no_bytes : (width left : ℕ) → front_part width left [] ≡ Err RunShort
unfolding front_part part_header header
no_bytes width left = refl

pub step_parts : (width most left used : ℕ) (bytes xs : List ℕ) → 0 < left → 0 < most → front_part width left bytes ≡ Ok (xs, used) → parts width most left bytes ≡ after xs used (parts width (most - 1) (left - length xs) (drop used bytes))
step_parts width zero left used bytes xs some more is = absurd (omega (arith, more))
step_parts width (suc most) zero used bytes xs some more is = absurd (omega (arith, some))
step_parts width (suc most) (suc left) used bytes xs some more is =
    let e : suc most - 1 ≡ most = omega arith in
    rw (is, e) refl

pub one_on : (width count : ℕ) (bytes : List ℕ) (at filled used : ℕ) (found xs : List ℕ) →
    Ahead width count bytes at filled found → filled < count → at + used ≤ length bytes → 1 ≤ used →
    front_part width (count - filled) (drop at bytes) ≡ Ok (xs, used) → Ahead width count bytes (at + used) (filled + length xs) (found ++ xs)
one_on width count bytes at filled used found xs ahead less inside least is = record {
  most = ahead.most - 1;
  enough = let h = ahead.enough in omega (arith, h, least, inside);
  whole =
      let h = ahead.enough in
      let size = length-drop at bytes in
      let step = step_parts width ahead.most (count - filled) used (drop at bytes) xs (omega (arith, less)) (omega (arith, h, inside, least)) is in
      let left : count - (filled + length xs) ≡ count - filled - length xs = omega arith in
      ap (λ (k : ℕ). after (found ++ xs) (at + used) (parts width (ahead.most - 1) k (drop (at + used) bytes))) left
      ∙ ap (λ (bs : List ℕ). after (found ++ xs) (at + used) (parts width (ahead.most - 1) (count - filled - length xs) bs)) (sym (drop-drop used at bytes))
      ∙ sym (after_after found xs at used (parts width (ahead.most - 1) (count - filled - length xs) (drop used (drop at bytes))))
      ∙ sym (ap (after found at) step)
      ∙ ahead.whole;
}

stop_parts : (width most left : ℕ) (bytes : List ℕ) (rule : Rule) → 0 < left → length bytes ≤ most → front_part width left bytes ≡ Err rule → parts width most left bytes ≡ Err rule
stop_parts width most zero bytes rule some enough is = absurd (omega (arith, some))
stop_parts width zero (suc left) bytes rule some enough is =
    let none : bytes ≡ [] = nil_from_length bytes (omega (arith, enough)) in
    sym (no_bytes width (suc left)) ∙ sym (ap (front_part width (suc left)) none) ∙ is
stop_parts width (suc most) (suc left) bytes rule some enough is = rw is refl

pub stopped : (width count : ℕ) (bytes : List ℕ) (at filled : ℕ) (found : List ℕ) (rule : Rule) →
    Ahead width count bytes at filled found → filled < count →
    front_part width (count - filled) (drop at bytes) ≡ Err rule → decoded width count bytes ≡ Err rule
stopped width count bytes at filled found rule ahead less is =
    let h = ahead.enough in
    let size = length-drop at bytes in
    sym ahead.whole ∙ ap (after found at) (stop_parts width ahead.most (count - filled) (drop at bytes) rule (omega (arith, less)) (omega (arith, h, size)) is)

-- a call by what its arguments are
pub called : (wide width room left : ℕ) (behind rest : List ℕ) → wide ≡ width → room ≡ left → behind ≡ rest → front_part width left rest ≡ front_part wide room behind
called wide width room left behind rest e f g =
    ap (λ (n : ℕ). front_part n left rest) (sym e) ∙ ap (λ (n : ℕ). front_part wide n rest) (sym f) ∙ ap (front_part wide room) (sym g)

-- The same with lengths in place of numbers.

pub sized : (part : Result (List ℕ × ℕ) Rule) (more used : ℕ) → (◌>>=◌ {B = ℕ × ℕ} part (λ p. Ok (length p.0, p.1))) ≡ Ok (more, used) → (xs : List ℕ) × ((part ≡ Ok (xs, used)) × (length xs ≡ more))
sized (Ok p) more used is =
    let pair : ℕ × ℕ = (length p.0, p.1) in
    let asked : ℕ × ℕ = (more, used) in
    let same : pair ≡ asked = cc in
    (p.0, (ap (λ (q : ℕ × ℕ). Ok (p.0, q.1)) same, ap (λ (q : ℕ × ℕ). q.0) same))
sized (Err rule) more used is = cc

pub unsized : (part : Result (List ℕ × ℕ) Rule) (rule : Rule) → (◌>>=◌ {B = ℕ × ℕ} part (λ p. Ok (length p.0, p.1))) ≡ Err rule → part ≡ Err rule
unsized (Ok p) rule is = cc
unsized (Err fault) rule is = cc
