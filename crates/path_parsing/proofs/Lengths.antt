-- The lengths of what is spelled.
use Rattle.std.proofs.Common.{◌≡◌, ℕ, ◌+◌, ◌<◌, List, [], ◌∷◌, length, length-append, arith}
use Rattle.json_strings.specs.Pieces.{Piece, byte, short, unit, pieces_spelled}
use Rattle.path_parsing.specs.Grammar.{StepSyntax, dotted, quoted, indexed, starred, step_bytes, steps_bytes, path_bytes}

pub pieces_length : (ps : List Piece) (after : List ℕ) → length (pieces_spelled ps after) ≡ length (pieces_spelled ps []) + length after
pieces_length [] after = omega arith
pieces_length (byte x ∷ ps) after = omega (arith, pieces_length ps after)
pieces_length (short x ∷ ps) after = omega (arith, pieces_length ps after)
pieces_length (unit a b c d ∷ ps) after = omega (arith, pieces_length ps after)

pub step_length : (s : StepSyntax) (after : List ℕ) → length (step_bytes s after) ≡ length (step_bytes s []) + length after
step_length (dotted name) after = omega (arith, length-append name after, length-append {A = ℕ} name [])
step_length (quoted ps) after = omega (arith, pieces_length ps (93 ∷ after), pieces_length ps (93 ∷ []))
step_length (indexed digits) after = omega (arith, length-append digits (93 ∷ after), length-append {A = ℕ} digits (93 ∷ []))
step_length starred after = omega arith

pub steps_length : (ss : List StepSyntax) (after : List ℕ) → length (steps_bytes ss after) ≡ length (steps_bytes ss []) + length after
steps_length [] after = omega arith
steps_length (s ∷ ss) after =
    omega (arith, step_length s (steps_bytes ss after), step_length s (steps_bytes ss []), steps_length ss after)

pub path_length : (ss : List StepSyntax) (after : List ℕ) → length (path_bytes ss after) ≡ length (path_bytes ss []) + length after
path_length ss after = omega (arith, steps_length ss after)

-- the bytes after a path are fewer than with it
pub path_longer : (ss : List StepSyntax) (after : List ℕ) → length after < length (path_bytes ss after)
path_longer ss after = omega (arith, steps_length ss after)
