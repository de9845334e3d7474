-- Texts that were judged are read as bytes.
use Rattle.std.proofs.Common.{◌≡◌, ◌∙◌, refl, ap, ℕ, ◌+◌, ◌==◌, Bool, true, false, is_ok, List, [], ◌∷◌, drop, length, nat_lt, Option, None, Some, Result, Ok, Err}
use Rattle.std.specs.Str.{is_utf8}
use Rattle.vs_bytes.specs.Numbers.{part}
use Rattle.vs_bytes.specs.Outcome.{◌>>=◌}
use Rattle.vs_bytes.specs.declared.leaf_columns.Cell.{Cell}
use Rattle.vs_bytes.specs.declared.leaf_columns.Entry.{Entry}
use Rattle.vs_bytes.specs.declared.leaf_columns.Leaf.{Leaf}
use Rattle.vs_bytes.specs.declared.leaf_columns.Phys.{Phys}
use Rattle.vs_bytes.specs.declared.leaf_columns.Phys.TheVariants as phys
use Rattle.vs_bytes.specs.declared.leaf_columns.PrimKind.{PrimKind}
use Rattle.vs_bytes.specs.declared.leaf_columns.PrimKind.TheVariants as prim
use Rattle.vs_bytes.specs.declared.rule.Rule.{Rule}
use Rattle.plain_values.specs.Plain.{front_cell, array, array_len, text}
use Rattle.pages.specs.Bodies.{entry}
use Rattle.pages.specs.ReadInTurn.{entries_in_turn}
use Rattle.pages.specs.Waiting.{left, judged_leaf, judged_kind}

ok_first : {A B : Type 0} (r : Result A Rule) (f : A → B) → is_ok (r >>= (λ a. Ok (f a))) ≡ true → is_ok r ≡ true
ok_first (Ok a) f good = refl
ok_first (Err rule) f good = cc

module _ (front other : List ℕ → Result (Cell × ℕ) Rule) (maximum : ℕ) (same : (bytes : List ℕ) → is_ok (front bytes) ≡ true → other bytes ≡ front bytes) where
  turns : (reps defs bytes : List ℕ) → is_ok (entries_in_turn front maximum reps defs bytes) ≡ true → entries_in_turn other maximum reps defs bytes ≡ entries_in_turn front maximum reps defs bytes
  turns [] defs bytes good = refl
  turns (rep ∷ reps) [] bytes good = refl
  turns (rep ∷ reps) (def ∷ defs) bytes good = by (def == maximum) refl (front bytes) refl (λ rest. turns reps defs rest)
    where
      later : (v : Option Cell × ℕ) → is_ok (entries_in_turn front maximum reps defs (drop v.1 bytes) >>= (λ es. Ok (entry rep def v.0 ∷ es))) ≡ true →
          ((rest : List ℕ) → is_ok (entries_in_turn front maximum reps defs rest) ≡ true → entries_in_turn other maximum reps defs rest ≡ entries_in_turn front maximum reps defs rest) →
          (entries_in_turn other maximum reps defs (drop v.1 bytes) >>= (λ es. Ok (entry rep def v.0 ∷ es))) ≡ (entries_in_turn front maximum reps defs (drop v.1 bytes) >>= (λ es. Ok (entry rep def v.0 ∷ es)))
      later v fine more =
          ap (λ (r : Result (List Entry) Rule). r >>= (λ es. Ok (entry rep def v.0 ∷ es))) (more (drop v.1 bytes) (ok_first (entries_in_turn front maximum reps defs (drop v.1 bytes)) (λ es. entry rep def v.0 ∷ es) fine))

      by : (b : Bool) → (def == maximum) ≡ b → (r : Result (Cell × ℕ) Rule) → front bytes ≡ r →
          ((rest : List ℕ) → is_ok (entries_in_turn front maximum reps defs rest) ≡ true → entries_in_turn other maximum reps defs rest ≡ entries_in_turn front maximum reps defs rest) →
          entries_in_turn other maximum (rep ∷ reps) (def ∷ defs) bytes ≡ entries_in_turn front maximum (rep ∷ reps) (def ∷ defs) bytes
      by true is (Ok c) read more =
          let alike : other bytes ≡ Ok c = same bytes (rw read refl) ∙ read in
          let fine : is_ok (entries_in_turn front maximum reps defs (drop c.1 bytes) >>= (λ es. Ok (entry rep def (Some c.0) ∷ es))) ≡ true = rw (is, read) at good in
          rw (is, read, alike) (later (Some c.0, c.1) fine more)
      by true is (Err rule) read more = let wrong : false ≡ true = rw (is, read) at good in cc
      by false is r read more = rw is (later (None, 0) (rw is at good) more)

module _ (bytes : List ℕ) where
  as_bytes : is_ok (array prim.Text bytes) ≡ true → array prim.Raw bytes ≡ array prim.Text bytes
  unfolding array text
  as_bytes good = by (nat_lt (length bytes) 4) refl (nat_lt (length bytes) (4 + array_len bytes)) refl (is_utf8 (part bytes 4 (array_len bytes))) refl
    where
      by : (a : Bool) → nat_lt (length bytes) 4 ≡ a → (b : Bool) → nat_lt (length bytes) (4 + array_len bytes) ≡ b → (u : Bool) → is_utf8 (part bytes 4 (array_len bytes)) ≡ u → array prim.Raw bytes ≡ array prim.Text bytes
      by true short b is u judged = rw short refl
      by false long true short u judged = rw (long, short) refl
      by false long false is true judged = rw (long, is, judged) refl
      by false long false is false judged = let wrong : false ≡ true = rw (long, is, judged) at good in cc

judged_front : (type : Phys) (kind : PrimKind) (bytes : List ℕ) → is_ok (front_cell type kind bytes) ≡ true → front_cell type (judged_kind kind) bytes ≡ front_cell type kind bytes
judged_front type prim.Text bytes good = by type good
  where
    by : (t : Phys) → is_ok (front_cell t prim.Text bytes) ≡ true → front_cell t prim.Raw bytes ≡ front_cell t prim.Text bytes
    by phys.Int32 g = refl
    by phys.Int64 g = refl
    by (phys.Fixed size) g = refl
    by phys.Boolean g = as_bytes bytes g
    by phys.Float g = as_bytes bytes g
    by phys.Double g = as_bytes bytes g
    by phys.ByteArray g = as_bytes bytes g
    by phys.Other g = as_bytes bytes g
judged_front type kind bytes good = refl

-- what was judged is read alike
pub judged_left : (leaf : Leaf) (reps defs bytes : List ℕ) → is_ok (left leaf reps defs bytes) ≡ true → left (judged_leaf leaf) reps defs bytes ≡ left leaf reps defs bytes
judged_left leaf reps defs bytes good = turns (front_cell leaf.phys leaf.prim) (front_cell leaf.phys (judged_kind leaf.prim)) leaf.def (judged_front leaf.phys leaf.prim) reps defs bytes good
