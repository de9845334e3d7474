-- The truth of a filter in a row.
use Rattle.std.specs.Prelude.{ℕ, List, [], ◌∷◌, Bool, true, false, not, ◌&&◌, ◌||◌, Option}
use mathlib.Core.Bool.{beq}
use Rattle.std.specs.Ordering.{nat_cmp, is_lt, is_eq, is_gt}
use Rattle.std.specs.declared.cmp.Ordering.{Ordering}
use Rattle.std.specs.Cmp.Lexicographic.{slice_cmp}
use Rattle.std.specs.List.{list_any}
use Rattle.exact_num.specs.Decimal.{Decimal, order}
use Rattle.json_tree.specs.Json.{Json, null, boolean, number, text}
use Rattle.query_tree.specs.Formula.{Claim, exists, missing, stands, Formula, term, conjunction, disjunction, negation}
use Rattle.query_tree.specs.declared.filter.Relation.{Relation}
use Rattle.query_tree.specs.declared.filter.Relation.TheVariants.{Equal, NotEqual, Less, AtMost, Greater, AtLeast}
use Rattle.path_query.specs.Matches.{at}

-- whether values in that order stand in the relation
abbrev pub is_ordered : Relation → Ordering → Bool
is_ordered Equal o = is_eq o
is_ordered NotEqual o = not (is_eq o)
is_ordered Less o = is_lt o
is_ordered AtMost o = not (is_gt o)
is_ordered Greater o = is_gt o
is_ordered AtLeast o = not (is_lt o)

-- whether two values, the same or not, stand in the relation, where they have no order
abbrev pub is_same : Relation → Bool → Bool
is_same Equal same = same
is_same NotEqual same = not same
is_same Less same = false
is_same AtMost same = false
is_same Greater same = false
is_same AtLeast same = false

-- A match of another kind than the literal's stands in no relation to it, not even `!=`.

abbrev pub stands_to_null : Relation → Json → Bool
stands_to_null relation null = is_same relation true
stands_to_null relation _ = false

abbrev pub stands_to_truth : Relation → Bool → Json → Bool
stands_to_truth relation a (boolean b) = is_same relation (beq b a)
stands_to_truth relation a _ = false

-- numbers by value
abbrev pub stands_to_number : Relation → Decimal → Json → Bool
stands_to_number relation a (number d) = is_ordered relation (order d a)
stands_to_number relation a _ = false

-- texts by their bytes, one by one from the first
abbrev pub stands_to_text : Relation → List ℕ → Json → Bool
stands_to_text relation a (text s) = is_ordered relation (slice_cmp nat_cmp s a)
stands_to_text relation a _ = false

-- whether a match stands in the relation to a literal, which is no array and no object
abbrev pub stands_to : Relation → Json → Json → Bool
stands_to relation null found = stands_to_null relation found
stands_to relation (boolean a) found = stands_to_truth relation a found
stands_to relation (number a) found = stands_to_number relation a found
stands_to relation (text a) found = stands_to_text relation a found
stands_to relation _ found = false

abbrev pub is_some_match : List Json → Bool
is_some_match [] = false
is_some_match (json ∷ more) = true

-- whether a claim is true of the matches: of one of them, where it speaks of a literal
abbrev pub is_true_of : List Json → Claim → Bool
is_true_of found exists = is_some_match found
is_true_of found missing = not (is_some_match found)
is_true_of found (stands relation literal) = list_any (stands_to relation literal) found

-- whether a filter holds in a row, which may be absent
abbrev pub holds : Formula → Option Json → Bool
holds (term steps claim) row = is_true_of (at steps row) claim
holds (conjunction f g) row = holds f row && holds g row
holds (disjunction f g) row = holds f row || holds g row
holds (negation f) row = not (holds f row)
