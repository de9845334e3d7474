-- A number consists of bytes of numbers, begins as a number, and is what is read of its bytes.
use Rattle.std.proofs.Common.{◌≡◌, refl, ℕ, List, true, Option, Some, None}
use Rattle.std.specs.Prelude.{is_some}
use Rattle.byte_parsing.specs.Parse.{Passes}
use Rattle.byte_parsing.specs.Words.{is_numeric}
use Rattle.exact_num.specs.Parsing.{parsed}
use Rattle.exact_num.specs.Spelling as numbers
use Rattle.exact_num.specs.Spelling.{BeginsNumber}
use Rattle.exact_num.proofs.Complete.{parsed_complete}
use Rattle.exact_num.proofs.NumberBytes.{all_numeric, begins_number}
use Rattle.exact_num.proofs.Sound.{parsed_sound}
use Rattle.json_grammar.specs.Grammar.{IsNumber}

pub number_passes : (s : List ℕ) → IsNumber s → Passes is_numeric s
number_passes s h = all_numeric s h.parts h.is_spelling

-- with a minus or a digit
abbrev pub Starts : List ℕ → Type 0
Starts s = BeginsNumber s

pub number_starts : (s : List ℕ) → IsNumber s → Starts s
number_starts s h = begins_number s h.parts h.is_spelling

-- reading tells whether bytes are a number

pub number_complete : (s : List ℕ) → IsNumber s → is_some (parsed s) ≡ true
number_complete s h = rw (parsed_complete s h.parts h.is_spelling) refl

pub number_sound : (s : List ℕ) → is_some (parsed s) ≡ true → IsNumber s
number_sound s e = by (parsed s) refl e
  where
    by : (o : Option numbers.Written) → parsed s ≡ o → is_some o ≡ true → IsNumber s
    by None read e = cc
    by (Some w) read e = record { parts = w; is_spelling = parsed_sound s w read }
