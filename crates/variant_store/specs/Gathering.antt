-- What is gathered of documents before it is written.
use Rattle.std.specs.Prelude.{◌≡◌, List, [], ◌∷◌, ◌++◌}
use Rattle.outside.specs.Output.{Output, Sends, Breaks}
use Rattle.json_tree.specs.Json.{Json}
use Rattle.variant_store.specs.Answer.{answer_over}
use Rattle.variant_store.specs.Stream.{Stream}
use Rattle.variant_store.specs.declared.gatherer.OutputFault.{OutputFault}
use Rattle.variant_store.specs.declared.gatherer.OutputFault.TheVariants as output

-- from one state of the output to another, the answer over these documents was put out
pub record Gathers (stream stream_now : Stream) (a b : Output) (documents : List Json) : Type 0 where
  pub same : stream_now ≡ stream
  pub sends : Sends a b (answer_over stream documents)

-- one more document wasn't taken. Where it couldn't be printed, the answer over those before it was put out, and
-- nothing of it; where a write was refused, a prefix of the answer over all of them was written
abbrev pub GathersUpTo : Stream → Output → Output → List Json → Json → OutputFault → Type 0
GathersUpTo stream a b documents document output.NoMemory = Sends a b (answer_over stream documents)
GathersUpTo stream a b documents document (output.Write fault) = Breaks a b (answer_over stream (documents ++ document ∷ [])) fault
