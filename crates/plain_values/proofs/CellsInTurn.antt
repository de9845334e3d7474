-- Cells that are read one by one.
use Rattle.std.proofs.Common.{◌≡◌, ◌∙◌, refl, sym, ap, ℕ, suc, ◌+◌, ◌-◌, ◌<◌, ◌≤◌, List, [], ◌∷◌, ◌++◌, drop, Result, Ok, Err, append_assoc, append-nil, arith}
use Rattle.vs_bytes.specs.Outcome.{◌>>=◌, Makes}
use Rattle.vs_bytes.specs.declared.refused.Refused.{Refused}
use Rattle.vs_bytes.specs.declared.refused.Refused.TheVariants.{Fault, NoMemory}
use Rattle.vs_bytes.specs.declared.leaf_columns.Cell.{Cell}
use Rattle.vs_bytes.specs.declared.rule.Rule.{Rule}
use Rattle.plain_values.specs.Plain.{cells}

-- what was read, in front of what follows
abbrev pub joined : List Cell → Result (List Cell) Rule → Result (List Cell) Rule
joined found rest = rest >>= (λ cs. Ok (found ++ cs))

pub none_joined : (rest : Result (List Cell) Rule) → joined [] rest ≡ rest
none_joined (Ok cs) = refl
none_joined (Err rule) = refl

one_joined : (found : List Cell) (c : Cell) (rest : Result (List Cell) Rule) → joined found (rest >>= (λ cs. Ok (c ∷ cs))) ≡ joined (found ++ c ∷ []) rest
one_joined found c (Ok cs) = ap Ok (sym (append_assoc found (c ∷ []) cs))
one_joined found c (Err rule) = refl

module _ (front : List ℕ → Result (Cell × ℕ) Rule) (count i : ℕ) (bytes : List ℕ) (found : List Cell) where
  pub one_more : (used : ℕ) (c : Cell) → i < count → front bytes ≡ Ok (c, used) → joined found (cells front (count - i) bytes) ≡ joined (found ++ c ∷ []) (cells front (count - (i + 1)) (drop used bytes))
  one_more used c less is =
      let left : count - i ≡ suc (count - (i + 1)) = omega (arith, less) in
      ap (λ (k : ℕ). joined found (cells front k bytes)) left
      ∙ rw is (one_joined found c (cells front (count - (i + 1)) (drop used bytes)))

  pub stopped : (refusal : Refused Rule) → i < count → Makes {A = Cell × ℕ} (λ c. c) (Err refusal) (front bytes) → Makes {A = List Cell} (λ cs. cs) (Err refusal) (joined found (cells front (count - i) bytes))
  stopped (Fault rule) less is =
      let left : count - i ≡ suc (count - (i + 1)) = omega (arith, less) in
      ap (λ (k : ℕ). joined found (cells front k bytes)) left ∙ rw is refl
  stopped NoMemory less is = tt

  pub all_read : count ≤ i → joined found (cells front (count - i) bytes) ≡ Ok found
  all_read done =
      let none : count - i ≡ 0 = omega (arith, done) in
      ap (λ (k : ℕ). joined found (cells front k bytes)) none ∙ ap Ok (append-nil found)
