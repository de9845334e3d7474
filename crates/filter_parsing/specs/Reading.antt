-- The reading of a filter as functions on lists, call by call as the parser makes them. They give the
-- derivation tree and the bytes after it. The `not`s and brackets that may still be opened are the
-- recursion's measure.
use Rattle.std.specs.Prelude.{◌==◌, nat_le, ℕ, ◌+◌, suc, zero, List, [], ◌∷◌, Bool, true, false, if◌then◌else◌, Option, Some, None, Result, Ok, Err, codes, length}
use Rattle.std.specs.Option.{option_map}
use Rattle.byte_parsing.specs.Bytes.{exclamation_mark, quote, open_parenthesis, close_parenthesis, less_sign, equals_sign, greater_sign, lower_e, lower_f, lower_m, lower_n, lower_t}
use Rattle.byte_parsing.specs.Parse.{Parse, and_then, front, back, past}
use Rattle.byte_parsing.specs.Words.{is_numeric, gap_of, past_gap, past_whole_word, word_value}
use Rattle.exact_num.specs.Decimal.{Decimal}
use Rattle.exact_num.specs.Reading.{read_of}
use Rattle.exact_num.specs.declared.fault.NumFault.{NumFault}
use Rattle.json_strings.specs.Reading.{paired_string_at}
use Rattle.query_tree.specs.declared.filter.Relation.{Relation}
use Rattle.query_tree.specs.declared.filter.Relation.TheVariants.{Equal, NotEqual, Less, AtMost, Greater, AtLeast}
use Rattle.path_parsing.specs.Reading.{path_at}
use Rattle.filter_parsing.specs.Grammar.{LiteralSyntax, null_word, truth_word, digits, string, TestSyntax, exists_word, missing_word, related, FilterSyntax, tested, denied, bracketed, both, either, terms}
use Rattle.filter_parsing.specs.Limits.{most_bytes, most_terms, most_nesting}

-- a relation, with or without `=` after its first byte
abbrev pub or_equal : Relation → Relation → List ℕ → Option (List ℕ) → Option (Relation × List ℕ)
or_equal strict weak xs None = Some (strict, xs)
or_equal strict weak xs (Some rest) = Some (weak, rest)

unfoldable pub relation_at : Parse Relation
relation_at [] = None
relation_at (x ∷ xs) =
    if x == equals_sign then Some (Equal, xs)
    else (if x == exclamation_mark then word_value NotEqual (past equals_sign xs)
    else (if x == less_sign then or_equal Less AtMost xs (past equals_sign xs)
    else (if x == greater_sign then or_equal Greater AtLeast xs (past equals_sign xs)
    else None)))

-- Literals.

abbrev pub number_from : List ℕ → List ℕ → Result Decimal NumFault → Option (LiteralSyntax × List ℕ)
number_from run rest (Ok d) = Some (digits run d, rest)
number_from run rest (Err fault) = None

-- all bytes of numbers that stand first are one number
abbrev pub number_at : Parse LiteralSyntax
number_at xs = number_from (front is_numeric xs) (back is_numeric xs) (read_of (front is_numeric xs))

-- after a quote
abbrev pub string_literal : Parse LiteralSyntax
string_literal xs = option_map (λ r. (string r.0, r.1)) (paired_string_at xs)

unfoldable pub literal_at : Parse LiteralSyntax
literal_at [] = None
literal_at (x ∷ xs) =
    if x == quote then string_literal xs
    else (if x == lower_n then word_value null_word (past_whole_word (codes "null") (x ∷ xs))
    else (if x == lower_t then word_value (truth_word true) (past_whole_word (codes "true") (x ∷ xs))
    else (if x == lower_f then word_value (truth_word false) (past_whole_word (codes "false") (x ∷ xs))
    else number_at (x ∷ xs))))

-- Tests and terms.

abbrev pub related_at : Parse TestSyntax
related_at xs = and_then (relation_at xs) (λ r. option_map (λ l. (related r.0 (gap_of r.1) l.0, l.1)) (literal_at (past_gap r.1)))

unfoldable pub test_at : Parse TestSyntax
test_at [] = None
test_at (x ∷ xs) =
    if x == lower_e then word_value exists_word (past_whole_word (codes "exists") (x ∷ xs))
    else (if x == lower_m then word_value missing_word (past_whole_word (codes "missing") (x ∷ xs))
    else related_at (x ∷ xs))

unfoldable pub term_at : Parse FilterSyntax
term_at xs = and_then (path_at xs) (λ p. option_map (λ t. (tested p.0 (gap_of p.1) t.0, t.1)) (test_at (past_gap p.1)))

-- Parts that `and` or `or` join.

abbrev pub are_few : FilterSyntax → FilterSyntax → Bool
are_few v w = nat_le (terms v + terms w) most_terms

-- the parts after the first, each after a word. The count is the most that are read
abbrev pub more_at : List ℕ → (FilterSyntax → List ℕ → List ℕ → FilterSyntax → FilterSyntax) → Parse FilterSyntax → ℕ → FilterSyntax → Parse FilterSyntax
more_at word join part zero left xs = Some (left, xs)
more_at word join part (suc count) left xs = more_after word join part (λ w ys. more_at word join part count w ys) left xs (past_whole_word word (past_gap xs))
  where
    more_after : List ℕ → (FilterSyntax → List ℕ → List ℕ → FilterSyntax → FilterSyntax) → Parse FilterSyntax → (FilterSyntax → Parse FilterSyntax) → FilterSyntax → List ℕ → Option (List ℕ) → Option (FilterSyntax × List ℕ)
    more_after word join part others left xs None = Some (left, xs)
    more_after word join part others left xs (Some ys) =
        and_then (part (past_gap ys)) (λ r. if are_few left r.0 then others (join left (gap_of xs) (gap_of ys) r.0) r.1 else None)

-- each part has a byte of its own, so their count is bounded by the bytes
abbrev pub joined_at : List ℕ → (FilterSyntax → List ℕ → List ℕ → FilterSyntax → FilterSyntax) → Parse FilterSyntax → Parse FilterSyntax
joined_at word join part xs = and_then (part xs) (λ r. more_at word join part (length r.1) r.0 r.1)

abbrev pub conj_at : Parse FilterSyntax → Parse FilterSyntax
conj_at unit xs = joined_at (codes "and") both unit xs

abbrev pub filter_by : Parse FilterSyntax → Parse FilterSyntax
filter_by unit xs = joined_at (codes "or") either (λ ys. conj_at unit ys) xs

-- Units, by what may stand inside them.

-- after `not`
abbrev pub denied_at : Parse FilterSyntax → Parse FilterSyntax
denied_at unit xs = option_map (λ r. (denied (gap_of xs) r.0, r.1)) (unit (past_gap xs))

-- after an opening bracket
abbrev pub bracketed_at : Parse FilterSyntax → Parse FilterSyntax
bracketed_at unit xs =
    and_then (filter_by unit (past_gap xs)) (λ r. option_map (λ rest. (bracketed (gap_of xs) r.0 (gap_of r.1), rest)) (past close_parenthesis (past_gap r.1)))

abbrev pub unit_by : Parse FilterSyntax → Parse FilterSyntax → Parse FilterSyntax
unit_by after_not after_bracket [] = None
unit_by after_not after_bracket (x ∷ xs) =
    if x == lower_n then and_then (past_whole_word (codes "not") (x ∷ xs)) after_not
    else (if x == open_parenthesis then after_bracket xs
    else term_at (x ∷ xs))

unfoldable pub unit_at : ℕ → Parse FilterSyntax
unit_at zero xs = unit_by (λ ys. None) (λ ys. None) xs
unit_at (suc depth) xs = unit_by (λ ys. denied_at (λ zs. unit_at depth zs) ys) (λ ys. bracketed_at (λ zs. unit_at depth zs) ys) xs

abbrev pub whole : Option (FilterSyntax × List ℕ) → Option FilterSyntax
whole read = and_then read (λ r. ended_at r.0 r.1)
  where
    ended_at : FilterSyntax → List ℕ → Option FilterSyntax
    ended_at w [] = Some w
    ended_at w (x ∷ xs) = None

-- a whole text, which has no more bytes than a filter may have
abbrev pub filter_at : List ℕ → Option FilterSyntax
filter_at text = if nat_le (length text) most_bytes then whole (filter_by (λ xs. unit_at most_nesting xs) text) else None
