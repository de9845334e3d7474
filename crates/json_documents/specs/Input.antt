-- What is known of the documents of an input, by how a walk over it ends. `left` is what the source has left.
use Rattle.std.specs.Prelude.{◌≡◌, ℕ, ◌+◌, ◌≤◌, List, [], ◌++◌, Option, Some, Result, Ok, Err, Contains, length}
use Rattle.outside.specs.Devices.{Device, IsCalm, Fails}
use Rattle.json_tree.specs.Json.{Json}
use Rattle.json_lines.specs.Takings.{AreWhole}
use Rattle.json_documents.specs.Documents.{Ending, at_end, at_line, at_limit, HasDocuments, max_input}
use Rattle.json_documents.specs.declared.faults.InputFault.{InputFault}
use Rattle.json_documents.specs.declared.faults.InputFault.TheVariants.{BadLine, InputTooLong, ReadFault, NoMemory}

-- where the input is known, this holds of it
abbrev pub OfInput : Option (List ℕ) → (List ℕ → Type 0) → Type 0
OfInput left P = (input : List ℕ) → left ≡ Some input → P input

-- the documents of the input begin with these
abbrev pub Begins : List ℕ → List Json → Type 0
Begins input documents = (more : List Json) × (ending : Ending) × HasDocuments input (documents ++ more) ending

-- these are the documents of the input, which was read to its end
abbrev pub GivesAll : List ℕ → Option (List ℕ) → List Json → Type 0
GivesAll input left documents = HasDocuments input documents at_end × (left ≡ Some [])

-- a read failed. The bytes given before are whole lines, and these are their documents; those held since
-- have no LF
pub record GivesRead (input : List ℕ) (left : Option (List ℕ)) (documents : List Json) : Type 0 where
  pub given : List ℕ
  pub held : List ℕ
  pub rest : List ℕ
  pub is_left : left ≡ Some rest
  pub splits : input ≡ given ++ (held ++ rest)
  pub whole : AreWhole given
  pub no_lf : Contains held 10 → ⊥
  pub has : HasDocuments given documents at_end
  pub begins : Begins input documents

-- these are the documents before the fault
abbrev pub Stops : List ℕ → Option (List ℕ) → List Json → InputFault → Type 0
Stops input left documents (BadLine n fault) = HasDocuments input documents (at_line n fault)
Stops input left documents InputTooLong = HasDocuments input documents at_limit
Stops input left documents ReadFault = GivesRead input left documents
Stops input left documents NoMemory = Begins input documents

-- the source failed exactly at a failed read
abbrev pub Faulted : Device → Device → InputFault → Type 0
Faulted before after (BadLine n fault) = IsCalm before after
Faulted before after InputTooLong = IsCalm before after
Faulted before after ReadFault = Fails before after
Faulted before after NoMemory = IsCalm before after

abbrev pub Counts : {A : Type 0} → Device → Device → Result A InputFault → Type 0
Counts before after (Ok found) = IsCalm before after
Counts before after (Err fault) = Faulted before after fault

-- what was read of the input is at most one byte more than counts
pub record IsWithinLimit (input : List ℕ) (left : Option (List ℕ)) : Type 0 where
  pub read : List ℕ
  pub after : List ℕ
  pub is_left : left ≡ Some after
  pub reads : input ≡ read ++ after
  pub most : length read ≤ max_input + 1
