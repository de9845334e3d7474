-- Entries that are made one by one are those whose values are read first.
use Rattle.std.proofs.Common.{◌≡◌, ◌∙◌, refl, sym, ap, ℕ, suc, ◌+◌, ◌<◌, ◌==◌, Bool, true, false, cond, List, [], ◌∷◌, ◌++◌, length, drop, slice_index, append_assoc, Option, None, Some, Result, Ok, Err, arith}
use Rattle.std.proofs.lemmas.List.{drop-drop, drop_more}
use Rattle.std.proofs.lemmas.List.Sums.{sum_by-cons}
use Rattle.vs_bytes.specs.Outcome.{◌>>=◌, Makes}
use Rattle.vs_bytes.specs.declared.refused.Refused.{Refused}
use Rattle.vs_bytes.specs.declared.refused.Refused.TheVariants.{Fault, NoMemory}
use Rattle.vs_bytes.specs.declared.leaf_columns.Cell.{Cell}
use Rattle.vs_bytes.specs.declared.leaf_columns.Entry.{Entry}
use Rattle.vs_bytes.specs.declared.leaf_columns.Leaf.{Leaf}
use Rattle.vs_bytes.specs.declared.leaf_columns.Phys.{Phys}
use Rattle.vs_bytes.specs.declared.leaf_columns.Phys.TheVariants as phys
use Rattle.vs_bytes.specs.declared.rule.Rule.{Rule}
use Rattle.plain_values.specs.Plain.{front_cell, cells}
use Rattle.pages.specs.Bodies.{entry, value_count, joined}
use Rattle.pages.specs.ReadInTurn.{value_at, one_more, entries_in_turn, entries_at_once, before}

module _ (front : List ℕ → Result (Cell × ℕ) Rule) (maximum : ℕ) where
  -- all values first, then the entries
  abbrev at_once : ℕ → List ℕ → List ℕ → List ℕ → Result (List Entry) Rule
  at_once count reps defs bytes = cells front count bytes >>= (λ cs. Ok (joined maximum reps defs cs))

  with_null : (rep def : ℕ) (reps defs : List ℕ) (read : Result (List Cell) Rule) → (def == maximum) ≡ false →
      (read >>= (λ cs. Ok (joined maximum (rep ∷ reps) (def ∷ defs) cs))) ≡ ((read >>= (λ cs. Ok (joined maximum reps defs cs))) >>= (λ es. Ok (entry rep def None ∷ es)))
  with_null rep def reps defs (Ok cs) is = rw is refl
  with_null rep def reps defs (Err rule) is = refl

  with_cell : (rep def : ℕ) (reps defs : List ℕ) (c : Cell) (read : Result (List Cell) Rule) → (def == maximum) ≡ true →
      ((read >>= (λ cs. Ok (c ∷ cs))) >>= (λ cs. Ok (joined maximum (rep ∷ reps) (def ∷ defs) cs))) ≡ ((read >>= (λ cs. Ok (joined maximum reps defs cs))) >>= (λ es. Ok (entry rep def (Some c) ∷ es)))
  with_cell rep def reps defs c (Ok cs) is = rw is refl
  with_cell rep def reps defs c (Err rule) is = refl

  pub in_turn : (reps defs bytes : List ℕ) → length reps ≡ length defs → entries_in_turn front maximum reps defs bytes ≡ (cells front (value_count maximum defs) bytes >>= (λ cs. Ok (joined maximum reps defs cs)))
  in_turn [] [] bytes same = refl
  in_turn [] (def ∷ defs) bytes same = absurd (omega (arith, same))
  in_turn (rep ∷ reps) [] bytes same = absurd (omega (arith, same))
  in_turn (rep ∷ reps) (def ∷ defs) bytes same =
      by (def == maximum) refl (front bytes) refl (λ rest. in_turn reps defs rest (omega (arith, same)))
    where
      counted : value_count maximum (def ∷ defs) ≡ cond (def == maximum) 1 0 + value_count maximum defs
      counted = sum_by-cons (λ (d : ℕ). cond (d == maximum) 1 0) def defs

      once_more : (def == maximum) ≡ true → value_count maximum (def ∷ defs) ≡ suc (value_count maximum defs)
      once_more is = counted ∙ rw is (omega arith)

      no_more : (def == maximum) ≡ false → value_count maximum (def ∷ defs) ≡ value_count maximum defs
      no_more is = counted ∙ rw is (omega arith)

      by : (b : Bool) → (def == maximum) ≡ b → (r : Result (Cell × ℕ) Rule) → front bytes ≡ r → ((rest : List ℕ) → entries_in_turn front maximum reps defs rest ≡ at_once (value_count maximum defs) reps defs rest) →
          entries_in_turn front maximum (rep ∷ reps) (def ∷ defs) bytes ≡ at_once (value_count maximum (def ∷ defs)) (rep ∷ reps) (def ∷ defs) bytes
      by true is (Ok c) read later =
          let left = cells front (value_count maximum defs) (drop c.1 bytes) in
          let first : entries_in_turn front maximum (rep ∷ reps) (def ∷ defs) bytes ≡ ((left >>= (λ cs. Ok (joined maximum reps defs cs))) >>= (λ es. Ok (entry rep def (Some c.0) ∷ es))) =
          rw (is, read) (ap (λ (r : Result (List Entry) Rule). r >>= (λ es. Ok (entry rep def (Some c.0) ∷ es))) (later (drop c.1 bytes))) in
          let last : at_once (suc (value_count maximum defs)) (rep ∷ reps) (def ∷ defs) bytes ≡ ((left >>= (λ cs. Ok (c.0 ∷ cs))) >>= (λ cs. Ok (joined maximum (rep ∷ reps) (def ∷ defs) cs))) = rw read refl in
          first
          ∙ sym (with_cell rep def reps defs c.0 left is)
          ∙ sym last
          ∙ sym (ap (λ (n : ℕ). at_once n (rep ∷ reps) (def ∷ defs) bytes) (once_more is))
      by true is (Err rule) read later =
          let first : entries_in_turn front maximum (rep ∷ reps) (def ∷ defs) bytes ≡ Err rule = rw (is, read) refl in
          let last : at_once (suc (value_count maximum defs)) (rep ∷ reps) (def ∷ defs) bytes ≡ Err rule = rw read refl in
          first ∙ sym last ∙ sym (ap (λ (n : ℕ). at_once n (rep ∷ reps) (def ∷ defs) bytes) (once_more is))
      by false is r read later =
          let left = cells front (value_count maximum defs) bytes in
          let first : entries_in_turn front maximum (rep ∷ reps) (def ∷ defs) bytes ≡ ((left >>= (λ cs. Ok (joined maximum reps defs cs))) >>= (λ es. Ok (entry rep def None ∷ es))) =
          rw is (ap (λ (r : Result (List Entry) Rule). r >>= (λ es. Ok (entry rep def None ∷ es))) (later bytes)) in
          first
          ∙ sym (with_null rep def reps defs left is)
          ∙ sym (ap (λ (n : ℕ). at_once n (rep ∷ reps) (def ∷ defs) bytes) (no_more is))

-- the same, by the column's type
pub of_type : (leaf : Leaf) (reps defs bytes : List ℕ) (n : ℕ) → (leaf.phys ≡ phys.Boolean → ⊥) → length reps ≡ n → length defs ≡ n → entries_in_turn (front_cell leaf.phys leaf.prim) leaf.def reps defs bytes ≡ entries_at_once leaf reps defs bytes
of_type leaf reps defs bytes n other as_reps as_defs = in_turn (front_cell leaf.phys leaf.prim) leaf.def reps defs bytes (as_reps ∙ sym as_defs) ∙ by leaf.phys refl
  where
    by : (type : Phys) → leaf.phys ≡ type → (cells (front_cell leaf.phys leaf.prim) (value_count leaf.def defs) bytes >>= (λ cs. Ok (joined leaf.def reps defs cs))) ≡ entries_at_once leaf reps defs bytes
    by phys.Boolean is = absurd (other is)
    by phys.Int32 is = rw is refl
    by phys.Int64 is = rw is refl
    by phys.Float is = rw is refl
    by phys.Double is = rw is refl
    by phys.ByteArray is = rw is refl
    by (phys.Fixed size) is = rw is refl
    by phys.Other is = rw is refl

one_before : (found : List Entry) (e : Entry) (rest : Result (List Entry) Rule) → before found (rest >>= (λ es. Ok (e ∷ es))) ≡ before (found ++ e ∷ []) rest
one_before found e (Ok es) = ap Ok (sym (append_assoc found (e ∷ []) es))
one_before found e (Err rule) = refl

module _ (front : List ℕ → Result (Cell × ℕ) Rule) (maximum i at : ℕ) (reps defs bytes : List ℕ) (found : List Entry) where
  -- what is made from entry `i` on
  abbrev turn : Result (List Entry) Rule
  turn = before found (entries_in_turn front maximum (drop i reps) (drop i defs) (drop at bytes))

  abbrev next : List Entry → ℕ → Result (List Entry) Rule
  next new used = before new (entries_in_turn front maximum (drop (i + 1) reps) (drop (i + 1) defs) (drop (at + used) bytes))

  abbrev value : Result (Option Cell × ℕ) Rule
  value = value_at front (slice_index defs i == maximum) (drop at bytes)

  opened : i < length reps → i < length defs → turn ≡ before found (entries_in_turn front maximum (slice_index reps i ∷ drop (i + 1) reps) (slice_index defs i ∷ drop (i + 1) defs) (drop at bytes))
  opened in_reps in_defs =
      ap (λ (rs : List ℕ). before found (entries_in_turn front maximum rs (drop i defs) (drop at bytes))) (drop_more reps i 0 in_reps)
      ∙ ap (λ (ds : List ℕ). before found (entries_in_turn front maximum (slice_index reps i ∷ drop (i + 1) reps) ds (drop at bytes))) (drop_more defs i 0 in_defs)

  with_value : (v : Option Cell × ℕ) → i < length reps → i < length defs → value ≡ Ok v → turn ≡ next (found ++ entry (slice_index reps i) (slice_index defs i) v.0 ∷ []) v.1
  with_value v in_reps in_defs is =
      let e = entry (slice_index reps i) (slice_index defs i) v.0 in
      let first : turn ≡ before found (entries_in_turn front maximum (drop (i + 1) reps) (drop (i + 1) defs) (drop v.1 (drop at bytes)) >>= (λ es. Ok (e ∷ es))) = opened in_reps in_defs ∙ rw is refl in
      first
      ∙ one_before found e (entries_in_turn front maximum (drop (i + 1) reps) (drop (i + 1) defs) (drop v.1 (drop at bytes)))
      ∙ ap (λ (bs : List ℕ). before (found ++ e ∷ []) (entries_in_turn front maximum (drop (i + 1) reps) (drop (i + 1) defs) bs)) (drop-drop v.1 at bytes)

  pub went_on : (rep def : ℕ) (new : List Entry) (used : ℕ) → i < length reps → i < length defs → rep ≡ slice_index reps i → def ≡ slice_index defs i →
      one_more front maximum rep def found (drop at bytes) ≡ Ok (new, used) → turn ≡ next new used
  went_on rep def new used in_reps in_defs as_rep as_def is = by value refl (rw (← as_rep, ← as_def) is)
    where
      by : (r : Result (Option Cell × ℕ) Rule) → value ≡ r → one_more front maximum (slice_index reps i) (slice_index defs i) found (drop at bytes) ≡ Ok (new, used) → turn ≡ next new used
      by (Ok v) read same =
          let made : Ok (found ++ entry (slice_index reps i) (slice_index defs i) v.0 ∷ [], v.1) ≡ Ok (new, used) = rw read at same in
          let both : (found ++ entry (slice_index reps i) (slice_index defs i) v.0 ∷ [], v.1) ≡ (new, used) = cc in
          with_value v in_reps in_defs read ∙ ap (λ (p : List Entry × ℕ). next p.0 p.1) both
      by (Err rule) read same = let wrong : ◌≡◌ {A = Result (List Entry × ℕ) Rule} (Err rule) (Ok (new, used)) = rw read at same in cc

  pub stopped : (rep def : ℕ) (refusal : Refused Rule) → i < length reps → i < length defs → rep ≡ slice_index reps i → def ≡ slice_index defs i →
      Makes {A = List Entry × ℕ} (λ p. p) (Err refusal) (one_more front maximum rep def found (drop at bytes)) → Makes {A = List Entry} (λ es. es) (Err refusal) turn
  stopped rep def (Fault rule) in_reps in_defs as_rep as_def is = by value refl (rw (← as_rep, ← as_def) is)
    where
      by : (r : Result (Option Cell × ℕ) Rule) → value ≡ r → one_more front maximum (slice_index reps i) (slice_index defs i) found (drop at bytes) ≡ Err rule → turn ≡ Err rule
      by (Ok v) read same = let wrong : ◌≡◌ {A = Result (List Entry × ℕ) Rule} (Ok (found ++ entry (slice_index reps i) (slice_index defs i) v.0 ∷ [], v.1)) (Err rule) = rw read at same in cc
      by (Err other) read same =
          let refused : ◌≡◌ {A = Result (List Entry × ℕ) Rule} (Err other) (Err rule) = rw read at same in
          let one : other ≡ rule = cc in
          let first : turn ≡ Err other = opened in_reps in_defs ∙ rw read refl in
          first ∙ ap (λ (r : Rule). Err r) one
  stopped rep def NoMemory in_reps in_defs as_rep as_def is = tt
