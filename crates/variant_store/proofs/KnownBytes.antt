-- What a call says of known bytes, over objects in memory.
use Rattle.std.proofs.Common.{◌≡◌, ◌∙◌, ◌⊎◌, inl, inr, refl, sym, ap, subst, ℕ, List, [], Result, Ok, Err, arith}
use Rattle.outside.specs.Devices.{Device}
use Rattle.outside.specs.Memory.{Given, Taken, source_device, sink_device}
use Rattle.outside.specs.declared.sink.SinkError.TheVariants as sink
use Rattle.shelf.specs.Storage.{Storage}
use Rattle.json_documents.specs.Documents.{at_end}
use Rattle.json_documents.specs.declared.faults.InputFault.TheVariants as why
use Rattle.json_documents.specs.declared.faults.Stop.{Stop}
use Rattle.json_documents.specs.declared.faults.Stop.TheVariants.{Input, Taker}
use Rattle.variant_store.specs.Commands.{Command, prints, loads, queries, checks, AskFor, ReadsInput}
use Rattle.variant_store.specs.Ends.{stream_end, load_end}
use Rattle.command_parsing.specs.Commands.{Load}
use Rattle.store_write.specs.declared.write_error.WriteError.{WriteError}
use Rattle.document_loading.specs.Loading.{Loads, intake}
use Rattle.variant_store.proofs.AskedCommands.{one_command, one_stream, stream_or_load, stream_or_query, stream_or_check}
use Rattle.variant_store.specs.InMemory.{Prints, IsNamed, StopsAtLine, StopsAtLimit}
use Rattle.variant_store.specs.Report.{Reports, IsReported, status_of}
use Rattle.variant_store.specs.Stream.{Stream}
use Rattle.variant_store.specs.Streaming.{Streams}
use Rattle.variant_store.specs.Top.{Does, Works, Runs, Ends, IsAnswer}
use Rattle.variant_store.specs.World.{World, Pipe, pipe_of, world_of}
use Rattle.variant_store.specs.declared.gatherer.OutputFault.{OutputFault}
use Rattle.variant_store.specs.declared.gatherer.OutputFault.TheVariants as output
use Rattle.variant_store.specs.declared.command_error.CommandError.{CommandError}
use Rattle.variant_store.specs.declared.command_error.CommandError.TheVariants as error

abbrev in_memory : Storage → Given → Taken → World
in_memory shelf input out = world_of shelf (source_device input) (sink_device out)

abbrev piped : Given → Taken → Pipe
piped input out = pipe_of (source_device input) (sink_device out)

-- at status 0

pub record Whole (stream : Stream) (input left : Given) (out out_now : Taken) : Type 0 where
  pub has_printed : Prints stream input at_end out out_now
  pub at_end : left.left ≡ []

whole_stream : (stream : Stream) (input left : Given) (out out_now : Taken) (end : Result (Unit {0}) (Stop OutputFault)) → Ok tt ≡ stream_end end → Streams stream (piped input out) (piped left out_now) end → Whole stream input left out out_now
whole_stream stream input left out out_now (Ok u) e s =
    let gives = s.0.are_of input.left refl in
    let none = gives.1 in
    record { has_printed = record { documents = s.0.documents; are_all = gives.0; answers = s.0.answers }; at_end = cc }
whole_stream stream input left out out_now (Err (Input fault)) e s = cc
whole_stream stream input left out out_now (Err (Taker fault)) e s = cc

pub whole : (words : List (List ℕ)) (stream : Stream) (shelf shelf_now : Storage) (input left : Given) (out out_now : Taken) → AskFor words (prints stream) → Works words (in_memory shelf input out) (in_memory shelf_now left out_now) (Ok tt) → Whole stream input left out out_now
whole words stream shelf shelf_now input left out out_now asks works = by works.command works.asked works.does
  where
    by : (command : Command) → AskFor words command → Does command (in_memory shelf input out) (in_memory shelf_now left out_now) (Ok tt) → Whole stream input left out out_now
    by (prints other) ask does = subst (λ (t : Stream). Whole t input left out out_now) (one_stream words other stream ask asks) (whole_stream other input left out out_now does.0 does.1 does.2)
    by (loads load) ask does = absurd (stream_or_load words stream load asks ask)
    by (queries query) ask does = absurd (stream_or_query words stream query asks ask)
    by (checks check) ask does = absurd (stream_or_check words stream check asks ask)

read_load : (load : Load) (shelf shelf_now : Storage) (input left : Given) (end : Result (Unit {0}) (Stop WriteError)) → Ok tt ≡ load_end end → Loads load (intake shelf (source_device input)) (intake shelf_now (source_device left)) end → left.left ≡ []
read_load load shelf shelf_now input left (Ok u) e s = let none = (s.0.are_of input.left refl).1 in cc
read_load load shelf shelf_now input left (Err (Input fault)) e s = cc
read_load load shelf shelf_now input left (Err (Taker fault)) e s = cc

pub read_all : (words : List (List ℕ)) (command : Command) (shelf shelf_now : Storage) (input left : Given) (out out_now : Taken) → AskFor words command → ReadsInput command → Works words (in_memory shelf input out) (in_memory shelf_now left out_now) (Ok tt) → left.left ≡ []
read_all words command shelf shelf_now input left out out_now asks reads works = by works.command (subst ReadsInput (one_command words command works.command asks works.asked) reads) works.does
  where
    by : (done_so : Command) → ReadsInput done_so → Does done_so (in_memory shelf input out) (in_memory shelf_now left out_now) (Ok tt) → left.left ≡ []
    by (prints stream) reads does = (whole_stream stream input left out out_now does.0 does.1 does.2).at_end
    by (loads load) reads does = read_load load shelf shelf_now input left does.0 does.1 does.2
    by (queries query) reads does = absurd reads
    by (checks check) reads does = absurd reads

not_zero : (error : CommandError) → status_of error ≡ 0 → ⊥
not_zero (error.BadWords bad) e = omega (arith, e)
not_zero (error.BadLine n fault) e = omega (arith, e)
not_zero error.InputTooLong e = omega (arith, e)
not_zero error.FooterFull e = omega (arith, e)
not_zero (error.BadFile file rule place) e = omega (arith, e)
not_zero error.ReadFault e = omega (arith, e)
not_zero error.WriteFault e = omega (arith, e)
not_zero error.NoMemory e = omega (arith, e)
not_zero (error.Absent file) e = omega (arith, e)
not_zero error.Taken e = omega (arith, e)

silent : (err err_now : Device) (status : ℕ) (done : Result (Unit {0}) CommandError) → status ≡ 0 → Ends done status err err_now → err_now ≡ err
silent err err_now status (Ok u) zero_is e = e.1
silent err err_now status (Err error) zero_is (inl h) = absurd (not_zero error (sym h.0 ∙ zero_is))
silent err err_now status (Err error) zero_is (inr h) = let seven = h.0 in absurd (omega (arith, seven, zero_is))

pub quiet : (words : List (List ℕ)) (before after : World) (err err_now : Taken) (status : ℕ) → status ≡ 0 → IsAnswer words before after (sink_device err) (sink_device err_now) status → err_now.written ≡ err.written
quiet words before after err err_now status zero_is a =
    let same = ap (λ (d : Device). d.bytes) (silent (sink_device err) (sink_device err_now) status a.done zero_is a.ends) in
    cc

-- at status 3

named : (error : CommandError) (err err_now : Taken) → Reports error (sink_device err) (sink_device err_now) → IsNamed error err err_now
named error err err_now (inl h) = inl h.0
named error err err_now (inr h) = inr (record { count = h.0.0; is_part = h.0.1; gained = h.0.2; rose = h.1.rose })

-- the status is that of the error, and its line was written
reported : (error : CommandError) (status : ℕ) (err err_now : Device) → status ≡ 3 → IsReported error status err err_now → (status_of error ≡ 3) × Reports error err err_now
reported error status err err_now three (inl h) = (sym h.0 ∙ three, h.1)
reported error status err err_now three (inr h) = let seven = h.0 in absurd (omega (arith, seven, three))

abbrev StopsAt : Stream → Given → Taken → Taken → Taken → Taken → Type 0
StopsAt stream input out out_now err err_now = StopsAtLine stream input out out_now err err_now ⊎ StopsAtLimit stream input out out_now err err_now

stopped : (stream : Stream) (input left : Given) (out out_now err err_now : Taken) (status : ℕ) (end : Result (Unit {0}) (Stop OutputFault)) → status ≡ 3 → Streams stream (piped input out) (piped left out_now) end
    → Ends (stream_end end) status (sink_device err) (sink_device err_now) → StopsAt stream input out out_now err err_now
stopped stream input left out out_now err err_now status (Ok u) three s e = let zero_is = e.0 in absurd (omega (arith, zero_is, three))
stopped stream input left out out_now err err_now status (Err (Input (why.BadLine n fault))) three s e =
    let told = reported (error.BadLine n fault) status (sink_device err) (sink_device err_now) three e in
    inl (record { line = n; fault = fault; prints = record { documents = s.0.documents; are_all = s.0.are_of input.left refl; answers = s.0.answers }; is_named = named (error.BadLine n fault) err err_now told.1 })
stopped stream input left out out_now err err_now status (Err (Input why.InputTooLong)) three s e =
    let told = reported error.InputTooLong status (sink_device err) (sink_device err_now) three e in
    inr (record { prints = record { documents = s.0.documents; are_all = s.0.are_of input.left refl; answers = s.0.answers }; is_named = named error.InputTooLong err err_now told.1 })
stopped stream input left out out_now err err_now status (Err (Input why.ReadFault)) three s e = let told = (reported error.ReadFault status (sink_device err) (sink_device err_now) three e).0 in absurd (omega (arith, told))
stopped stream input left out out_now err err_now status (Err (Input why.NoMemory)) three s e = let told = (reported error.NoMemory status (sink_device err) (sink_device err_now) three e).0 in absurd (omega (arith, told))
stopped stream input left out out_now err err_now status (Err (Taker (output.Write sink.Failed))) three s e = let told = (reported error.WriteFault status (sink_device err) (sink_device err_now) three e).0 in absurd (omega (arith, told))
stopped stream input left out out_now err err_now status (Err (Taker output.NoMemory)) three s e = let told = (reported error.NoMemory status (sink_device err) (sink_device err_now) three e).0 in absurd (omega (arith, told))
stopped stream input left out out_now err err_now status (Err (Taker (output.Write sink.NoMemory))) three s e = let told = (reported error.NoMemory status (sink_device err) (sink_device err_now) three e).0 in absurd (omega (arith, told))

pub stops : (words : List (List ℕ)) (stream : Stream) (shelf shelf_now : Storage) (input left : Given) (out out_now err err_now : Taken) (status : ℕ) → AskFor words (prints stream) → status ≡ 3
    → IsAnswer words (in_memory shelf input out) (in_memory shelf_now left out_now) (sink_device err) (sink_device err_now) status → StopsAt stream input out out_now err err_now
stops words stream shelf shelf_now input left out out_now err err_now status asks three a = by a.runs
  where
    ended : (done : Result (Unit {0}) CommandError) → a.done ≡ done → Ends done status (sink_device err) (sink_device err_now)
    ended done e = subst (λ (d : Result (Unit {0}) CommandError). Ends d status (sink_device err) (sink_device err_now)) e a.ends

    by_command : (command : Command) → AskFor words command → Does command (in_memory shelf input out) (in_memory shelf_now left out_now) a.done → StopsAt stream input out out_now err err_now
    by_command (prints other) ask does =
        subst (λ (t : Stream). StopsAt t input out out_now err err_now) (one_stream words other stream ask asks) (stopped other input left out out_now err err_now status does.0 three does.2 (ended (stream_end does.0) does.1))
    by_command (loads load) ask does = absurd (stream_or_load words stream load asks ask)
    by_command (queries query) ask does = absurd (stream_or_query words stream query asks ask)
    by_command (checks check) ask does = absurd (stream_or_check words stream check asks ask)

    by : Runs words (in_memory shelf input out) (in_memory shelf_now left out_now) a.done → StopsAt stream input out out_now err err_now
    by (inl works) = by_command works.command works.asked works.does
    by (inr (inl refused)) = let told = (reported (error.BadWords refused.bad) status (sink_device err) (sink_device err_now) three (ended (Err (error.BadWords refused.bad)) refused.answer_is)).0 in absurd (omega (arith, told))
    by (inr (inr lacking)) = let told = (reported error.NoMemory status (sink_device err) (sink_device err_now) three (ended (Err error.NoMemory) lacking.answer_is)).0 in absurd (omega (arith, told))
