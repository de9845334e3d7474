-- How the readers of paths and filters answer.
use Rattle.std.specs.Prelude.{◌≡◌, ℕ, List, true, false, Result, Ok, Err}
use Rattle.query_tree.specs.Formula.{Formula, is_suited}
use Rattle.query_tree.specs.declared.step.Step.{Step}
use Rattle.path_parsing.specs.Grammar.{IsPath}
use Rattle.filter_parsing.specs.Grammar.{IsFilter}
use Rattle.path_query.specs.declared.fault.TextFault.{TextFault}
use Rattle.path_query.specs.declared.fault.TextFault.TheVariants.{BadPath, BadFilter, BadOrder, NoMemory}

-- the path of the text, or that it is none. Out of memory says nothing
abbrev pub ParsesPath : {A : Type 0} → (A → List Step) → List ℕ → Result A TextFault → Type 0
ParsesPath view text (Ok path) = IsPath text (view path)
ParsesPath view text (Err BadPath) = (steps : List Step) → IsPath text steps → ⊥
ParsesPath view text (Err NoMemory) = Unit {0}
ParsesPath view text (Err BadFilter) = ⊥
ParsesPath view text (Err BadOrder) = ⊥

-- the filter of the text, whose literals suit their relations; or that it is none; or that it is one, and
-- some literal doesn't suit. Out of memory says nothing
abbrev pub ParsesFilter : {A : Type 0} → (A → Formula) → List ℕ → Result A TextFault → Type 0
ParsesFilter view text (Ok filter) = IsFilter text (view filter) × (is_suited (view filter) ≡ true)
ParsesFilter view text (Err BadFilter) = (formula : Formula) → IsFilter text formula → ⊥
ParsesFilter view text (Err BadOrder) = (formula : Formula) × IsFilter text formula × (is_suited formula ≡ false)
ParsesFilter view text (Err NoMemory) = Unit {0}
ParsesFilter view text (Err BadPath) = ⊥
