-- What is after a string is shorter than what it stands in.
use Rattle.std.proofs.Common.{◌≡◌, refl, subst, ℕ, ◌<◌, List, [], ◌∷◌, Option, Some, None, Ok, Err, Result, IfOk, length, arith}
use Rattle.std.specs.Option.{option_map}
use Rattle.json_strings.specs.Pieces.{Piece, byte, short, unit, pieces_spelled}
use Rattle.json_strings.specs.Meaning.{IsString, text_of, lone_of}
use Rattle.json_strings.specs.Reading.{string_at, quoted_at}
use Rattle.json_strings.specs.Content.{Quote}
use Rattle.vs_bytes.specs.Outcome.{Reads}
use Rattle.json_strings.specs.Shown.{quote}
use Rattle.json_strings.specs.declared.reader.Quoted.{Quoted}
use Rattle.vs_bytes.specs.declared.refused.Absent.{Absent}
use Rattle.vs_bytes.specs.declared.refused.Refused.{Refused}
use Rattle.json_strings.proofs.Strings.{string_sound}

pub spelled_longer : (ps : List Piece) (rest : List ℕ) → length rest < length (pieces_spelled ps rest)
spelled_longer [] rest = omega arith
spelled_longer (byte x ∷ ps) rest = omega (arith, spelled_longer ps rest)
spelled_longer (short x ∷ ps) rest = omega (arith, spelled_longer ps rest)
spelled_longer (unit a b c d ∷ ps) rest = omega (arith, spelled_longer ps rest)

-- what is read, from what is told of it
pub record IsTold (xs : List ℕ) (q : Quote) : Type 0 where
  pub pieces : List Piece
  pub spelled : xs ≡ pieces_spelled pieces q.2
  pub is_string : IsString pieces
  pub text_is : q.0 ≡ text_of pieces
  pub lone_is : q.1 ≡ lone_of pieces

pub told_string : (xs : List ℕ) (q : Quote) → quoted_at xs ≡ Some q → IsTold xs q
told_string xs q e = by (string_at xs) refl e
  where
    by : (o : Option (List Piece × List ℕ)) → string_at xs ≡ o → option_map {U = Quote} (λ r. (text_of r.0, lone_of r.0, r.1)) o ≡ Some q → IsTold xs q
    by None f g = cc
    by (Some read) f g =
        let known = string_sound xs read.0 read.1 f in
        let same : ◌≡◌ {A = Quote} (text_of read.0, lone_of read.0, read.1) q = cc in
        subst (IsTold xs) same (record { pieces = read.0; spelled = known.0; is_string = known.1; text_is = refl; lone_is = refl })

pub told_shorter : (xs : List ℕ) (result : Result Quoted (Refused Absent)) → Reads quote result (quoted_at xs) → IfOk result (λ q. length q.rest.now < length xs)
told_shorter xs (Ok q) e = let told = told_string xs (quote q) e in rw told.spelled (spelled_longer told.pieces q.rest.now)
told_shorter xs (Err fault) e = tt
