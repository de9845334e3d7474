-- How a call of the parser answers: as the function on lists that it follows.
use Rattle.std.specs.Prelude.{ℕ, List, [], ◌∷◌, Bool, true, Option, Some, None, Result, Ok, Err}
use Rattle.std.specs.Option.{option_map}
use Rattle.exact_num.specs.Decimal.{Decimal}
use Rattle.exact_num.specs.declared.fault.NumFault.{NumFault}
use Rattle.exact_num.specs.declared.fault.NumFault.TheVariants.{NotNumber, TooWide}
use Rattle.json_grammar.specs.Grammar.{Written, Elements, no_elements, first_element, MoreElements, end_elements, next_element, Entry, Entries}
use Rattle.json_tree.specs.Json.{Json, null, number}
use Rattle.exact_json.specs.Meaning.{Flaws, joined, lone_flaw, wide_flaw, tree_of, flaws_of, elements_flaws, pair_in, entry_flaws, pairs_in, entries_flaws}

-- what is read stands for a value, and adds its flaws to those that were seen before
abbrev pub told_as : {A B : Type 0} → (A → B) → (A → Flaws) → Flaws → Option (A × List ℕ) → Option (B × Flaws × List ℕ)
told_as value flaws before read = option_map (λ p. (value p.0, joined before (flaws p.0), p.1)) read

abbrev pub told : Flaws → Option (Written × List ℕ) → Option (Json × Flaws × List ℕ)
told before read = told_as tree_of flaws_of before read

-- a whole text
abbrev pub told_text : Flaws → Option Written → Option (Json × Flaws)
told_text before read = option_map (λ w. (tree_of w, joined before (flaws_of w))) read

-- a string, by its text and whether it has a lone surrogate
abbrev pub told_string : Flaws → Option (List ℕ × Bool × List ℕ) → Option (List ℕ × Flaws × List ℕ)
told_string before read = option_map (λ q. (q.0, joined before (lone_flaw q.1), q.2)) read

-- the values of an array's elements
abbrev pub more_items_in : MoreElements → List Json
more_items_in end_elements = []
more_items_in (next_element before w gap es) = tree_of w ∷ more_items_in es

abbrev pub items_in : Elements → List Json
items_in no_elements = []
items_in (first_element w gap es) = tree_of w ∷ more_items_in es

abbrev pub told_elements : Flaws → Option (Elements × List ℕ) → Option (List Json × Flaws × List ℕ)
told_elements before read = told_as items_in elements_flaws before read

abbrev pub told_entry : Flaws → Option (Entry × List ℕ) → Option ((List ℕ × Json) × Flaws × List ℕ)
told_entry before read = told_as pair_in entry_flaws before read

abbrev pub told_entries : Flaws → Option (Entries × List ℕ) → Option (List (List ℕ × Json) × Flaws × List ℕ)
told_entries before read = told_as pairs_in entries_flaws before read

-- a number, by the judgement of its text
abbrev pub told_number : Flaws → List ℕ → Result Decimal NumFault → Option (Json × Flaws × List ℕ)
told_number before rest (Ok d) = Some (number d, before, rest)
told_number before rest (Err TooWide) = Some (null, joined before (wide_flaw true), rest)
told_number before rest (Err NotNumber) = None
