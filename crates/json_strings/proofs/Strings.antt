-- What is written is read, and what is read is written.
use Rattle.std.proofs.Common.{◌≡◌, ◌∙◌, refl, sym, ap, subst, ℕ, List, [], ◌∷◌, Option, Some, eqb-true}
use Rattle.json_strings.specs.Pieces.{Piece, byte, short, unit, ArePieces, pieces_spelled}
use Rattle.json_strings.specs.Meaning.{IsString}
use Rattle.json_strings.specs.Reading.{pieces_at, pieces_behind, pieces_unit, string_at, is_plain}
use Rattle.json_strings.proofs.Digits.{plain_passes, passes_plain, short_passes, passes_short, short_not_u, unit_passes, passes_unit}
use Rattle.json_strings.proofs.Holds.{Holds, holds_none, holds_some, holds_then, holds_map, holds_if}

pub pieces_complete : (ps : List Piece) (after : List ℕ) → ArePieces ps → pieces_at (pieces_spelled ps after) ≡ Some (ps, after)
unfolding is_plain
pieces_complete [] after h = refl
pieces_complete (byte x ∷ ps) after h = rw (plain_passes x h.0, pieces_complete ps after h.1) refl
pieces_complete (short x ∷ ps) after h = rw (short_not_u x (short_passes x h.0), short_passes x h.0, pieces_complete ps after h.1) refl
pieces_complete (unit a b c d ∷ ps) after h = rw (unit_passes a b c d h.0, pieces_complete ps after h.1) refl

pub string_complete : (ps : List Piece) (after : List ℕ) → IsString ps → string_at (pieces_spelled ps after) ≡ Some (ps, after)
unfolding string_at
string_complete ps after h = rw (pieces_complete ps after h.0, h.1) refl

-- what is read of a string
pub record IsReadOf (xs : List ℕ) (read : List Piece × List ℕ) : Type 0 where
  pub bytes : xs ≡ pieces_spelled read.0 read.1
  pub pieces : ArePieces read.0

mutual
  pub pieces_sound : (xs : List ℕ) → Holds (IsReadOf xs) (pieces_at xs)
  pieces_sound [] = holds_none _
  pieces_sound (x ∷ xs) =
      holds_if (IsReadOf (x ∷ xs)) _ _ _
      (λ e. holds_map (IsReadOf xs) (IsReadOf (x ∷ xs)) _ _ (pieces_sound xs) (λ read h. record { bytes = ap (λ ys. x ∷ ys) h.bytes; pieces = (passes_plain x e, h.pieces) }))
      (λ e. holds_if (IsReadOf (x ∷ xs)) _ _ _ (λ f. holds_some (IsReadOf (x ∷ xs)) ([], xs) (record { bytes = ap (λ y. y ∷ xs) (eqb-true x 34 f); pieces = tt }))
      (λ f. holds_if (IsReadOf (x ∷ xs)) _ _ _ (λ g. subst (λ y. Holds (IsReadOf (y ∷ xs)) (pieces_behind xs)) (sym (eqb-true x 92 g)) (behind_sound xs)) (λ g. holds_none _)))

  behind_sound : (xs : List ℕ) → Holds (IsReadOf (92 ∷ xs)) (pieces_behind xs)
  behind_sound [] = holds_none _
  behind_sound (x ∷ xs) =
      holds_if (IsReadOf (92 ∷ (x ∷ xs))) _ _ _ (λ e. subst (λ y. Holds (IsReadOf (92 ∷ (y ∷ xs))) (pieces_unit xs)) (sym (eqb-true x 117 e)) (unit_sound xs))
      (λ e. holds_if (IsReadOf (92 ∷ (x ∷ xs))) _ _ _
      (λ f. holds_map (IsReadOf xs) (IsReadOf (92 ∷ (x ∷ xs))) _ _ (pieces_sound xs) (λ read h. record { bytes = ap (λ ys. 92 ∷ (x ∷ ys)) h.bytes; pieces = (passes_short x f, h.pieces) }))
      (λ f. holds_none _))

  unit_sound : (xs : List ℕ) → Holds (IsReadOf (92 ∷ (117 ∷ xs))) (pieces_unit xs)
  unit_sound (a ∷ (b ∷ (c ∷ (d ∷ xs)))) =
      let P : List Piece × List ℕ → Type 0 = IsReadOf (92 ∷ (117 ∷ (a ∷ (b ∷ (c ∷ (d ∷ xs)))))) in
      holds_if P _ _ _
      (λ e. holds_map (IsReadOf xs) P _ _ (pieces_sound xs) (λ read h. record { bytes = ap (λ ys. 92 ∷ (117 ∷ (a ∷ (b ∷ (c ∷ (d ∷ ys)))))) h.bytes; pieces = (passes_unit a b c d e, h.pieces) }))
      (λ e. holds_none _)
  unit_sound (a ∷ (b ∷ (c ∷ []))) = holds_none _
  unit_sound (a ∷ (b ∷ [])) = holds_none _
  unit_sound (a ∷ []) = holds_none _
  unit_sound [] = holds_none _

string_holds : (xs : List ℕ) → Holds (λ read. (xs ≡ pieces_spelled read.0 read.1) × IsString read.0) (string_at xs)
unfolding string_at
string_holds xs =
    holds_then _ _ _ _ (pieces_sound xs) (λ read h.
    holds_if _ _ _ _ (λ e. holds_some _ _ (h.bytes, (h.pieces, e))) (λ e. holds_none _))

pub string_sound : (xs : List ℕ) (ps : List Piece) (rest : List ℕ) → string_at xs ≡ Some (ps, rest) → (xs ≡ pieces_spelled ps rest) × IsString ps
string_sound xs ps rest e = (string_holds xs).here (ps, rest) e

pub string_once : (ps qs : List Piece) (after rest : List ℕ) → IsString ps → IsString qs → pieces_spelled ps after ≡ pieces_spelled qs rest → (ps ≡ qs) × (after ≡ rest)
string_once ps qs after rest h k e =
    let same : ◌≡◌ {A = Option (List Piece × List ℕ)} (Some (ps, after)) (Some (qs, rest)) = sym (string_complete ps after h) ∙ ap string_at e ∙ string_complete qs rest k in
    let both : ◌≡◌ {A = List Piece × List ℕ} (ps, after) (qs, rest) = cc in
    (ap (λ p. p.0) both, ap (λ p. p.1) both)
