-- The canonical text of a number.
use Rattle.std.proofs.Common.{◌≡◌, refl, ap, ℕ, List, true, Option, Some, None, Ok}
use Rattle.std.specs.Prelude.{is_some}
use Rattle.std.specs.Result.{result_ok}
use Rattle.exact_num.specs.Decimal as decimals
use Rattle.exact_num.specs.Decimal.{Decimal}
use Rattle.exact_num.specs.Parsing.{parsed}
use Rattle.exact_num.specs.Reading.{read_from, read_of}
use Rattle.exact_num.specs.Spelling as parts
use Rattle.exact_num.specs.Text.{text_of}
use Rattle.exact_num.proofs.ReadingBack.{reads_back}
use Rattle.json_grammar.specs.Grammar.{IsNumber}
use Rattle.json_grammar.proofs.Numbers.{number_sound}
use Rattle.exact_json.specs.Meaning.{number_of}

-- what is read is a number of the grammar
number_well : (s : List ℕ) (d : Decimal) → read_of s ≡ Ok d → IsNumber s
number_well s d e = number_sound s (by (parsed s) e)
  where
    by : (o : Option parts.Written) → read_from o ≡ Ok d → is_some o ≡ true
    by None f = cc
    by (Some w) f = refl

pub text_well : (d : Decimal) → decimals.IsNumber d → IsNumber (text_of d)
text_well d h = number_well (text_of d) d (reads_back d h)

pub text_means : (d : Decimal) → decimals.IsNumber d → number_of (text_of d) ≡ Some d
text_means d h = ap result_ok (reads_back d h)
