-- Parts of filters: the formula of each, and how many terms it has.
use Rattle.std.specs.Prelude.{nat_le, ℕ, ◌+◌, zero, suc, if◌then◌else◌, Option, Some, None}
use Rattle.byte_parsing.specs.Parse.{Parse}
use Rattle.query_tree.specs.Formula.{Formula}
use Rattle.query_tree.specs.View.{formula_of}
use Rattle.filter_parsing.specs.Grammar.{FilterSyntax, terms}
use Rattle.filter_parsing.specs.Grammar as written
use Rattle.filter_parsing.specs.Limits.{most_terms}
use Rattle.filter_parsing.specs.Reading.{unit_at, denied_at, bracketed_at}
use Rattle.filter_parsing.specs.declared.parsed.Parsed.{Parsed}

-- of a part of the code
abbrev pub part_of : Parsed → Formula × ℕ
part_of parsed = (formula_of parsed.filter, parsed.terms)

-- of a derivation
abbrev pub meaning_of : FilterSyntax → Formula × ℕ
meaning_of w = (written.formula_of w, terms w)

-- two parts, where they have no more terms than a filter may have
abbrev pub joined_as : (Formula → Formula → Formula) → Formula × ℕ → Formula × ℕ → Option (Formula × ℕ)
joined_as join left right = if nat_le (left.1 + right.1) most_terms then Some (join left.0 right.0, left.1 + right.1) else None

-- After `not` and after a bracket, while so many of them may still be opened.

abbrev pub denied_within : ℕ → Parse FilterSyntax
denied_within zero xs = None
denied_within (suc depth) xs = denied_at (λ ys. unit_at depth ys) xs

abbrev pub bracketed_within : ℕ → Parse FilterSyntax
bracketed_within zero xs = None
bracketed_within (suc depth) xs = bracketed_at (λ ys. unit_at depth ys) xs
