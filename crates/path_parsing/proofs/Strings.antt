-- What is read of a string is spelled.
use Rattle.std.proofs.Common.{◌≡◌, ℕ, List, false}
use Rattle.byte_parsing.proofs.Holds.{Holds, holds_none, holds_some, holds_then, holds_if}
use Rattle.json_strings.specs.Pieces.{pieces_spelled}
use Rattle.json_strings.specs.Meaning.{IsString, lone_of}
use Rattle.json_strings.specs.Reading.{string_at, paired_string_at}
use Rattle.json_strings.proofs.Strings as strings

string_sound : (xs : List ℕ) → Holds (λ read. (xs ≡ pieces_spelled read.0 read.1) × IsString read.0) (string_at xs)
string_sound xs = record { here = λ read e. strings.string_sound xs read.0 read.1 e }

pub paired_sound : (xs : List ℕ) → Holds (λ read. (xs ≡ pieces_spelled read.0 read.1) × IsString read.0 × (lone_of read.0 ≡ false)) (paired_string_at xs)
paired_sound xs =
    holds_then _ _ _ _ (string_sound xs) (λ read p.
    holds_if _ (lone_of read.0) _ _ (λ _. holds_none _) (λ e. holds_some _ read (p.0, p.1, e)))
