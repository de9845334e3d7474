-- What was given of an input so far, and what the next call gives.
use Rattle.std.specs.Prelude.{◌≡◌, ◌⊎◌, ℕ, ◌+◌, ◌<◌, ◌≤◌, List, [], ◌∷◌, ◌++◌, Option, None, Some, Result, Ok, Err, length}
use Rattle.json_tree.specs.Json.{Json}
use Rattle.json_tree.specs.View.{view}
use Rattle.json_tree.specs.declared.types.Tree.{Tree}
use Rattle.json_lines.specs.Cut.{lines_of}
use Rattle.json_lines.specs.Next.{State, nothing, ended}
use Rattle.json_lines.specs.Takings.{AreWhole}
use Rattle.exact_json.specs.Meaning.{Spells, IsFirstFault}
use Rattle.json_documents.specs.Documents.{Ending, Walks, HasDocuments, IsInputValue, max_input}
use Rattle.json_documents.specs.Input.{GivesAll, Stops}
use Rattle.json_documents.specs.declared.faults.InputFault.{InputFault}
use Rattle.json_documents.specs.declared.faults.InputFault.TheVariants as fault

-- nothing was read
abbrev pub at_start : State
at_start = record { number = 0; room = max_input; held = []; kept = nothing }

-- no fault was found
abbrev pub IsGoing : State → Type 0
IsGoing s = (s.kept ≡ nothing) ⊎ (s.kept ≡ ended)

-- these documents were given, of whole lines; whatever comes after those lines, its documents come after these
pub record GivenOpen (input : List ℕ) (left : Option (List ℕ)) (s : State) (documents : List Json) : Type 0 where
  pub given : List ℕ
  pub rest : List ℕ
  pub is_left : left ≡ Some rest
  pub splits : input ≡ given ++ (s.held ++ rest)
  pub counts : max_input ≡ s.room + length given
  pub whole : AreWhole given
  pub ahead : (tail : List ℕ) (more : List Json) (ending : Ending) → Walks (lines_of s.room tail) s.number more ending → HasDocuments (given ++ tail) (documents ++ more) ending

-- all documents were given, the last of a line that no LF ends
pub record GivenLast (input : List ℕ) (left : Option (List ℕ)) (documents : List Json) : Type 0 where
  pub all : GivesAll input left documents
  pub size : length input ≤ max_input + 1

abbrev pub Given : List ℕ → Option (List ℕ) → State → List Json → Type 0
Given input left s documents = ((s.kept ≡ nothing) × GivenOpen input left s documents) ⊎ ((s.kept ≡ ended) × GivenLast input left documents)

-- one more document, or none, and then these are all
abbrev pub Gives : List ℕ → Option (List ℕ) → State → List Json → Result (Option Tree) InputFault → Type 0
Gives input left s documents (Ok (Some tree)) = Given input left s (documents ++ view tree ∷ [])
Gives input left s documents (Ok None) = GivesAll input left documents
Gives input left s documents (Err why) = Stops input left documents why

-- after a document more can come, and less of the input still counts
abbrev pub GoesOn : State → State → Result (Option Tree) InputFault → Type 0
GoesOn s t (Ok (Some tree)) = IsInputValue (view tree) × IsGoing t × (t.room < s.room)
GoesOn s t (Ok None) = Unit {0}
GoesOn s t (Err why) = Unit {0}

-- the document of line n, or the line's first fault
abbrev pub ReadsLine : ℕ → List ℕ → Result Tree InputFault → Type 0
ReadsLine n line (Ok tree) = Spells line (view tree) × IsInputValue (view tree)
ReadsLine n line (Err (fault.BadLine m why)) = (m ≡ n) × IsFirstFault line why
ReadsLine n line (Err fault.InputTooLong) = ⊥
ReadsLine n line (Err fault.ReadFault) = ⊥
ReadsLine n line (Err fault.NoMemory) = Unit {0}
