-- How the reader of a whole text answers.
use Rattle.std.specs.Prelude.{ℕ, List, Result, Ok, Err}
use Rattle.vs_bytes.specs.declared.refused.Absent.{Absent}
use Rattle.vs_bytes.specs.declared.refused.Refused.{Refused}
use Rattle.vs_bytes.specs.declared.refused.Refused.TheVariants.{Fault, NoMemory}
use Rattle.query_tree.specs.Formula.{Formula}
use Rattle.filter_parsing.specs.Grammar.{IsFilter}

-- the filter of the text, or that it is none. Out of memory says nothing
abbrev pub Parses : {A : Type 0} → (A → Formula) → List ℕ → Result A (Refused Absent) → Type 0
Parses view text (Ok filter) = IsFilter text (view filter)
Parses view text (Err (Fault fault)) = (formula : Formula) → IsFilter text formula → ⊥
Parses view text (Err NoMemory) = Unit {0}
