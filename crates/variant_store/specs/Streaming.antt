-- What a command leaves that prints something of each document, and which device failed, by how it ends.
use Rattle.std.specs.Prelude.{◌≤◌, ℕ, List, [], ◌∷◌, ◌++◌, Result, Ok, Err}
use Rattle.std.specs.Io.KnownBytes.{Appends}
use Rattle.outside.specs.Calls.{Broke}
use Rattle.outside.specs.Devices.{IsCalm, AppendsPrefix}
use Rattle.json_tree.specs.Json.{Json}
use Rattle.json_documents.specs.Input.{OfInput, Begins, GivesAll, Stops, Faulted}
use Rattle.json_documents.specs.declared.faults.Stop.{Stop}
use Rattle.json_documents.specs.declared.faults.Stop.TheVariants.{Input, Taker}
use Rattle.variant_store.specs.Answer.{answer_over}
use Rattle.variant_store.specs.Stream.{Stream}
use Rattle.variant_store.specs.World.{Pipe, AreCalm}
use Rattle.variant_store.specs.declared.gatherer.OutputFault.{OutputFault}
use Rattle.variant_store.specs.declared.gatherer.OutputFault.TheVariants as output

-- the output gained the answer over these documents of the input
pub record Answers (stream : Stream) (before after : Pipe) (AreOf : List ℕ → List Json → Type 0) : Type 0 where
  pub documents : List Json
  pub are_of : OfInput before.input.bytes (λ input. AreOf input documents)
  pub answers : Appends before.out.bytes after.out.bytes (answer_over stream documents)

-- the output gained a prefix of the answer over the first documents of the input
pub record AnswersPart (stream : Stream) (before after : Pipe) : Type 0 where
  pub documents : List Json
  pub are_first : OfInput before.input.bytes (λ input. Begins input documents)
  pub answers : AppendsPrefix before.out.bytes after.out.bytes (answer_over stream documents)

-- these are the documents before some document of the input
abbrev pub AreBefore : List ℕ → List Json → Type 0
AreBefore input documents = (document : Json) × Begins input (documents ++ document ∷ [])

-- a failed read comes to light unless a write was refused after it
abbrev pub Streams : Stream → Pipe → Pipe → Result (Unit {0}) (Stop OutputFault) → Type 0
Streams stream before after (Ok _) = Answers stream before after (λ input documents. GivesAll input after.input.bytes documents) × AreCalm before after
Streams stream before after (Err (Input fault)) = Answers stream before after (λ input documents. Stops input after.input.bytes documents fault) × Faulted before.input after.input fault × IsCalm before.out after.out
Streams stream before after (Err (Taker output.NoMemory)) = Answers stream before after AreBefore × AreCalm before after
Streams stream before after (Err (Taker (output.Write fault))) = AnswersPart stream before after × (before.input.faults ≤ after.input.faults) × Broke before.out after.out fault
