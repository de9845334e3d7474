-- What a taker of documents was handed, by how the walk over them ends.
use Rattle.std.specs.Prelude.{ℕ, List, [], ◌∷◌, ◌++◌, Option, Result, Ok, Err}
use Rattle.outside.specs.Devices.{Device, IsCalm}
use Rattle.json_tree.specs.Json.{Json}
use Rattle.json_documents.specs.Input.{OfInput, Begins, GivesAll, Stops, Faulted}
use Rattle.json_documents.specs.declared.faults.Stop.{Stop}
use Rattle.json_documents.specs.declared.faults.Stop.TheVariants.{Input, Taker}

-- a document was taken, or refused
abbrev pub Takes : {F : Type 0} → Type 0 → (F → Type 0) → Result (Unit {0}) F → Type 0
Takes Took Refused (Ok _) = Took
Takes Took Refused (Err fault) = Refused fault

-- these documents were taken, and of a known input they are what P says
pub record TookAll (Took : List Json → Type 0) (left : Option (List ℕ)) (P : List ℕ → List Json → Type 0) : Type 0 where
  pub documents : List Json
  pub took : Took documents
  pub known : OfInput left (λ input. P input documents)

-- these documents were taken, and then one was refused; with it they are the first of the input
pub record TookSome {F : Type 0} (Refused : List Json → Json → F → Type 0) (left : Option (List ℕ)) (fault : F) : Type 0 where
  pub documents : List Json
  pub document : Json
  pub refused : Refused documents document fault
  pub known : OfInput left (λ input. Begins input (documents ++ document ∷ []))

abbrev pub HandsOn : {F : Type 0} → Device → Device → (List Json → Type 0) → (List Json → Json → F → Type 0) → Result (Unit {0}) (Stop F) → Type 0
HandsOn before after Took Refused (Ok _) = TookAll Took before.bytes (λ input documents. GivesAll input after.bytes documents) × IsCalm before after
HandsOn before after Took Refused (Err (Input fault)) = TookAll Took before.bytes (λ input documents. Stops input after.bytes documents fault) × Faulted before after fault
HandsOn before after Took Refused (Err (Taker fault)) = TookSome Refused before.bytes fault × IsCalm before after
