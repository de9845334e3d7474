-- A number, by the judgement of its text.
use Rattle.std.proofs.Common.{◌≡◌, refl, ℕ, List, cond, Option, Some, None}
use Rattle.std.specs.Prelude.{is_some, not, ok_or}
use Rattle.exact_num.specs.Decimal.{Decimal}
use Rattle.exact_num.specs.declared.fault.NumFault.TheVariants.{TooWide}
use Rattle.exact_num.specs.Leading.{number_run, after_number}
use Rattle.exact_num.specs.Parsing.{parsed}
use Rattle.exact_num.specs.Reading.{read_of, read_from}
use Rattle.exact_num.specs.Reading as numbers
use Rattle.exact_num.specs.Spelling as parts
use Rattle.std.specs.Result.{result_ok}
use Rattle.json_grammar.specs.Grammar as written
use Rattle.byte_parsing.specs.Parse.{front, back}
use Rattle.byte_parsing.specs.Words.{is_numeric}
use Rattle.json_grammar.specs.Reading.{number_at}
use Rattle.exact_json.specs.Meaning.{Flaws, joined, number_or_null, wide_flaw}
use Rattle.exact_json.specs.Parsing.{told, told_number}

judged : (before : Flaws) (rest : List ℕ) (o : Option Decimal) → told_number before rest (ok_or o TooWide) ≡ Some (number_or_null (result_ok (ok_or o TooWide)), joined before (wide_flaw (not (is_some (result_ok (ok_or o TooWide))))), rest)
judged before rest None = refl
judged before rest (Some d) = refl

pub number_told : (before : Flaws) (text : List ℕ) → told before (number_at text) ≡ told_number before (after_number text) (read_of (number_run text))
number_told before text = by (parsed (front is_numeric text)) refl
  where
    by : (o : Option parts.Written) → parsed (front is_numeric text) ≡ o → told before (cond (is_some o) (Some (written.number (front is_numeric text), back is_numeric text)) None) ≡ told_number before (back is_numeric text) (read_from o)
    by None e = refl
    by (Some w) e = rw (e, judged before (back is_numeric text) (numbers.number_of w)) refl
