-- The pages of a chunk in turn, gathered.
use Rattle.std.proofs.Common.{◌≡◌, ◌∙◌, refl, sym, ap, ℕ, zero, suc, ◌-◌, ◌<◌, List, [], ◌++◌, length, Option, None, Some, Result, Ok, Err, append_assoc, append-nil, arith}
use Rattle.vs_bytes.specs.Outcome.{Makes, ◌>>=◌}
use Rattle.vs_bytes.specs.declared.leaf_columns.Entry.{Entry}
use Rattle.vs_bytes.specs.declared.refused.Refused.{Refused}
use Rattle.vs_bytes.specs.declared.refused.Refused.TheVariants.{Fault, NoMemory}
use Rattle.vs_bytes.specs.declared.rule.Rule.{Rule}
use Rattle.chunks.specs.Turns.{Standing, next_of, gathered, all_from, entries_of}

-- entries in front of others
abbrev pub front : List Entry → Result (List Entry) Rule → Result (List Entry) Rule
front found rest = rest >>= (λ later. Ok (found ++ later))

front_front : (xs ys : List Entry) (rest : Result (List Entry) Rule) → front xs (front ys rest) ≡ front (xs ++ ys) rest
front_front xs ys (Ok later) = ap (λ (es : List Entry). Ok es) (sym (append_assoc xs ys later))
front_front xs ys (Err rule) = refl

front_none : (rest : Result (List Entry) Rule) → front [] rest ≡ rest
front_none (Ok later) = refl
front_none (Err rule) = refl

-- what was found, in front of what is still to come, is all
pub record Gathered (start now : Standing) (found : List Entry) : Type 0 where
  pub most : ℕ
  pub enough : length now.rest < most
  pub whole : front found (all_from most now) ≡ entries_of start

pub nothing_yet : (start : Standing) → Gathered start start []
unfolding entries_of
nothing_yet start = record {
  most = suc (length start.rest);
  enough = omega arith;
  whole = front_none (all_from (suc (length start.rest)) start);
}

one_turn : (most : ℕ) (now : Standing) → 0 < most → all_from most now ≡ (next_of now >>= gathered (all_from (most - 1)))
one_turn zero now some = absurd (omega (arith, some))
one_turn (suc most) now some =
    let e : suc most - 1 ≡ most = omega arith in
    ap (λ (k : ℕ). next_of now >>= gathered (all_from k)) (sym e)

module _ (start now : Standing) (found : List Entry) (so_far : Gathered start now found) where
  step : front found (next_of now >>= gathered (all_from (so_far.most - 1))) ≡ entries_of start
  step =
      let h = so_far.enough in
      ap (front found) (sym (one_turn so_far.most now (omega (arith, h)))) ∙ so_far.whole

  pub one_page : (next : Standing) (entries : List Entry) → length next.rest < length now.rest → next_of now ≡ Ok (Some entries, next) → Gathered start next (found ++ entries)
  one_page next entries less is = record {
    most = so_far.most - 1;
    enough = let h = so_far.enough in omega (arith, h, less);
    whole =
        sym (front_front found entries (all_from (so_far.most - 1) next))
        ∙ sym (ap (λ (r : Result (Option (List Entry) × Standing) Rule). front found (r >>= gathered (all_from (so_far.most - 1)))) is)
        ∙ step;
  }

  pub all_found : (next : Standing) → next_of now ≡ Ok (None, next) → entries_of start ≡ Ok found
  all_found next is =
      sym step
      ∙ ap (λ (r : Result (Option (List Entry) × Standing) Rule). front found (r >>= gathered (all_from (so_far.most - 1)))) is
      ∙ ap (λ (es : List Entry). Ok es) (append-nil found)

  pub fault_found : (rule : Rule) → next_of now ≡ Err rule → entries_of start ≡ Err rule
  fault_found rule is =
      sym step ∙ ap (λ (r : Result (Option (List Entry) × Standing) Rule). front found (r >>= gathered (all_from (so_far.most - 1)))) is

  pub refusal_found : (view : Option (List Entry) → Option (List Entry) × Standing) (refusal : Refused Rule) → Makes view (Err refusal) (next_of now) → Makes {A = List Entry} {F = Rule} (λ es. es) (Err refusal) (entries_of start)
  refusal_found view (Fault rule) is = fault_found rule is
  refusal_found view NoMemory is = tt
