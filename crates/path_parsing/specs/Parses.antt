-- How the reader of a whole text answers.
use Rattle.std.specs.Prelude.{ℕ, List, Result, Ok, Err}
use Rattle.vs_bytes.specs.declared.refused.Absent.{Absent}
use Rattle.vs_bytes.specs.declared.refused.Refused.{Refused}
use Rattle.vs_bytes.specs.declared.refused.Refused.TheVariants.{Fault, NoMemory}
use Rattle.query_tree.specs.declared.step.Step.{Step}
use Rattle.path_parsing.specs.Grammar.{IsPath}

-- the path of the text, or that it is none. Out of memory says nothing
abbrev pub Parses : {A : Type 0} → (A → List Step) → List ℕ → Result A (Refused Absent) → Type 0
Parses view text (Ok path) = IsPath text (view path)
Parses view text (Err (Fault fault)) = (steps : List Step) → IsPath text steps → ⊥
Parses view text (Err NoMemory) = Unit {0}
