-- Lemmas on how a command ends that prints something of each document.
use Rattle.std.proofs.Common.{◌≡◌, ◌≤◌, ℕ, List, [], ◌∷◌, ◌++◌, sym, subst, Option, Err, append_assoc, append-nil, arith}
use Rattle.outside.specs.Devices.{Device, IsCalm, AppendsPrefix}
use Rattle.outside.specs.Output.{Output, Sends, Breaks}
use Rattle.outside.specs.declared.sink.SinkError.{SinkError}
use Rattle.outside.proofs.Sending.{sends_breaks}
use Rattle.json_tree.specs.Json.{Json}
use Rattle.json_documents.specs.Documents.{Ending, at_end, at_line, at_limit, HasDocuments}
use Rattle.json_documents.specs.Input.{OfInput, Begins, GivesAll, Stops, Faulted}
use Rattle.json_documents.specs.Taking.{TookAll, TookSome}
use Rattle.json_documents.specs.declared.faults.InputFault.{InputFault}
use Rattle.json_documents.specs.declared.faults.InputFault.TheVariants as why
use Rattle.json_documents.specs.declared.faults.Stop.TheVariants.{Taker}
use Rattle.variant_store.specs.Answer.{answer_over}
use Rattle.variant_store.specs.Gathering.{Gathers, GathersUpTo}
use Rattle.variant_store.specs.Stream.{Stream}
use Rattle.variant_store.specs.Streaming.{AnswersPart, Streams}
use Rattle.variant_store.specs.World.{pipe_of}
use Rattle.variant_store.specs.declared.gatherer.OutputFault.TheVariants as output

-- what is given of an input are first documents of it
begins_all : (input : List ℕ) (documents : List Json) (ending : Ending) → HasDocuments input documents ending → Begins input documents
begins_all input documents ending has = ([], ending, subst (λ (ds : List Json). HasDocuments input ds ending) (sym (append-nil documents)) has)

pub gives_begins : (input : List ℕ) (left : Option (List ℕ)) (documents : List Json) → GivesAll input left documents → Begins input documents
gives_begins input left documents g = begins_all input documents at_end g.0

pub stops_begins : (input : List ℕ) (left : Option (List ℕ)) (documents : List Json) (fault : InputFault) → Stops input left documents fault → Begins input documents
stops_begins input left documents (why.BadLine n fault) s = begins_all input documents (at_line n fault) s
stops_begins input left documents why.InputTooLong s = begins_all input documents at_limit s
stops_begins input left documents why.ReadFault s = s.begins
stops_begins input left documents why.NoMemory s = s

-- a source never fails less often than before
pub calm_later : (i j : Device) → IsCalm i j → i.faults ≤ j.faults
calm_later i j calm = omega (arith, calm)

pub faulted_later : (i j : Device) (fault : InputFault) → Faulted i j fault → i.faults ≤ j.faults
faulted_later i j (why.BadLine n fault) calm = calm_later i j calm
faulted_later i j why.InputTooLong calm = calm_later i j calm
faulted_later i j why.ReadFault fails = fails.later
faulted_later i j why.NoMemory calm = calm_later i j calm

-- a prefix of what was gathered of first documents is written
cut_short : (stream : Stream) (i j : Device) (a b c : Output) (documents : List Json) (fault : SinkError) → a.pending ≡ [] → Sends a b (answer_over stream documents) → OfInput i.bytes (λ input. Begins input documents) → Breaks b c [] fault
    → i.faults ≤ j.faults → Streams stream (pipe_of i a.device) (pipe_of j c.device) (Err (Taker (output.Write fault)))
cut_short stream i j a b c documents fault empty sends first broken later =
    let answer = answer_over stream documents in
    let part : Breaks a c (answer ++ []) fault = sends_breaks a b c answer [] fault sends broken in
    let answers_part : AnswersPart stream (pipe_of i a.device) (pipe_of j c.device) = record {
      documents = documents;
      are_first = first;
      answers = subst (λ (s : List ℕ). AppendsPrefix a.device.bytes c.device.bytes s) (append-nil answer) (subst (λ (p : List ℕ). AppendsPrefix a.device.bytes c.device.bytes (p ++ (answer ++ []))) empty part.part);
    } in
    (answers_part, later, part.broke)

-- after the walk has ended at the input
pub stream_cut : (stream stream_now : Stream) (i j : Device) (a b c : Output) (fault : SinkError) (AreOf : List ℕ → List Json → Type 0) → a.pending ≡ [] → TookAll (λ ds. Gathers stream stream_now a b ds) i.bytes AreOf
    → ((input : List ℕ) (ds : List Json) → AreOf input ds → Begins input ds) → Breaks b c [] fault → i.faults ≤ j.faults → Streams stream (pipe_of i a.device) (pipe_of j c.device) (Err (Taker (output.Write fault)))
stream_cut stream stream_now i j a b c fault AreOf empty took begins broken later = cut_short stream i j a b c took.documents fault empty took.took.sends (λ input known. begins input took.documents (took.known input known)) broken later

begins_less : (input : List ℕ) (documents : List Json) (document : Json) → Begins input (documents ++ document ∷ []) → Begins input documents
begins_less input documents document b = (document ∷ b.0, b.1, subst (λ (ds : List Json). HasDocuments input ds b.1) (append_assoc documents (document ∷ []) b.0) b.2)

abbrev Lacks : Stream → Device → Output → Output → Type 0
Lacks stream i a b = TookSome (λ documents document fault. GathersUpTo stream a b documents document fault) i.bytes output.NoMemory

-- after there was no memory to print a document
pub unprinted_cut : (stream : Stream) (i j : Device) (a b c : Output) (fault : SinkError) → a.pending ≡ [] → Lacks stream i a b → Breaks b c [] fault → IsCalm i j → Streams stream (pipe_of i a.device) (pipe_of j c.device) (Err (Taker (output.Write fault)))
unprinted_cut stream i j a b c fault empty lacks broken calm =
    cut_short stream i j a b c lacks.documents fault empty lacks.refused (λ input known. begins_less input lacks.documents lacks.document (lacks.known input known)) broken (calm_later i j calm)
