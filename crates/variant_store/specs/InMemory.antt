-- What a command over objects in memory has printed, in bytes.
use Rattle.std.specs.Prelude.{◌≡◌, ◌⊎◌, ◌<◌, ℕ, List, ◌++◌, length, take}
use Rattle.outside.specs.Devices.{Rose}
use Rattle.outside.specs.Memory.{Given, Taken}
use Rattle.json_tree.specs.Json.{Json}
use Rattle.json_documents.specs.Documents.{Ending, at_line, at_limit, HasDocuments}
use Rattle.exact_json.specs.declared.fault.DocFault.{DocFault}
use Rattle.variant_store.specs.Answer.{answer_over}
use Rattle.variant_store.specs.Report.{message_of}
use Rattle.variant_store.specs.Stream.{Stream}
use Rattle.variant_store.specs.declared.command_error.CommandError.{CommandError}
use Rattle.variant_store.specs.declared.command_error.CommandError.TheVariants.{BadLine, InputTooLong}

-- the output gained the answer over the documents of the input, and the walk over the input ends so
pub record Prints (stream : Stream) (input : Given) (ending : Ending) (out out_now : Taken) : Type 0 where
  pub documents : List Json
  pub are_all : HasDocuments input.left documents ending
  pub answers : out_now.written ≡ out.written ++ answer_over stream documents

-- the error output failed, and gained a part of a line
pub record IsCut (line : List ℕ) (err err_now : Taken) : Type 0 where
  pub count : ℕ
  pub is_part : count < length line
  pub gained : err_now.written ≡ err.written ++ take count line
  pub rose : Rose err.plan.faults err_now.plan.faults

-- the error output gained the line of an error, or a part of it where it failed
abbrev pub IsNamed : CommandError → Taken → Taken → Type 0
IsNamed error err err_now = (err_now.written ≡ err.written ++ message_of error) ⊎ IsCut (message_of error) err err_now

-- the output gained the lines before the first line that has a fault, which is named
pub record StopsAtLine (stream : Stream) (input : Given) (out out_now err err_now : Taken) : Type 0 where
  pub line : ℕ
  pub fault : DocFault
  pub prints : Prints stream input (at_line line fault) out out_now
  pub is_named : IsNamed (BadLine line fault) err err_now

-- or all lines before the one that the limit of the input falls into
pub record StopsAtLimit (stream : Stream) (input : Given) (out out_now err err_now : Taken) : Type 0 where
  pub prints : Prints stream input at_limit out out_now
  pub is_named : IsNamed InputTooLong err err_now
