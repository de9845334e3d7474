-- Admitted input and no fault of a device give status 0, or 7.
use Rattle.std.proofs.Common.{◌≡◌, ◌∙◌, ◌⊎◌, inl, inr, refl, sym, ap, subst, ℕ, List, [], ◌∷◌, ◌++◌, Option, Some, None, Result, Ok, Err, IsSome}
use Rattle.std.proofs.lemmas.Bool.{false≢true}
use Rattle.std.specs.FinMap.{get}
use Rattle.command_parsing.specs.Commands.{Load}
use Rattle.shelf.specs.Storage.{Files, Has}
use Rattle.store_write.specs.Cutting.{cut_of}
use Rattle.store_write.specs.Frames.{body_of, made}
use Rattle.store_write.specs.declared.write_error.WriteError.{WriteError}
use Rattle.store_write.specs.declared.write_error.WriteError.TheVariants as write
use Rattle.document_loading.specs.Loading.{Loads, Overflows, format}
use Rattle.document_loading.specs.Taken.{rows_of}
use Rattle.document_loading.proofs.Overflowing.{long_stays}
use Rattle.file_answers.proofs.Sound.{query_done, check_done}
use Rattle.file_answers.specs.Completing.{IsDone}
use Rattle.file_answers.specs.declared.file_error.FileError.{FileError}
use Rattle.json_documents.specs.Input.{Begins}
use Rattle.outside.specs.Devices.{Device, Fails}
use Rattle.outside.specs.declared.sink.SinkError.TheVariants as sink
use Rattle.json_tree.specs.Json.{Json}
use Rattle.json_documents.specs.Documents.{Ending, at_end, HasDocuments}
use Rattle.json_documents.specs.declared.faults.InputFault.TheVariants as why
use Rattle.json_documents.specs.declared.faults.Stop.{Stop}
use Rattle.json_documents.specs.declared.faults.Stop.TheVariants.{Input, Taker}
use Rattle.json_documents.proofs.Walks.{walks_once}
use Rattle.variant_store.proofs.AskedCommands.{not_wrong, one_command}
use Rattle.variant_store.specs.Commands.{Command, prints, loads, queries, checks, AskFor}
use Rattle.variant_store.specs.Ends.{stream_end, load_end, file_end}
use Rattle.variant_store.specs.Stream.{Stream}
use Rattle.variant_store.specs.Streaming.{Streams}
use Rattle.variant_store.specs.Top.{Does, Runs, Ends, HasAll, IsAdmitted, HasFailed, Completes}
use Rattle.variant_store.specs.World.{World, pipe_in, intake_in, readout_in}
use Rattle.variant_store.specs.declared.gatherer.OutputFault.{OutputFault}
use Rattle.variant_store.specs.declared.gatherer.OutputFault.TheVariants as output
use Rattle.variant_store.specs.declared.command_error.CommandError.{CommandError}
use Rattle.variant_store.specs.declared.command_error.CommandError.TheVariants as error

one_ending : (input : List ℕ) (ds es : List Json) (a b : Ending) → HasDocuments input ds a → HasDocuments input es b → a ≡ b
one_ending input ds es a b f g = (walks_once _ 0 ds es a b f g).ending

-- a call that ends without memory has status 7
seven : (status : ℕ) (err err_now : Device) → Ends (Err error.NoMemory) status err err_now → status ≡ 7
seven status err err_now (inl h) = h.0
seven status err err_now (inr h) = h.0

-- no ending but the end of the input, and want of memory, is left
completes_stream : (stream : Stream) (before after : World) (err err_now : Device) (status : ℕ) (end : Result (Unit {0}) (Stop OutputFault)) → Streams stream (pipe_in before) (pipe_in after) end → Ends (stream_end end) status err err_now
    → IsAdmitted (prints stream) before → (HasFailed (prints stream) before after → ⊥) → (status ≡ 0) ⊎ (status ≡ 7)
completes_stream stream before after err err_now status (Ok u) s e a calm = inl e.0
completes_stream stream before after err err_now status (Err (Input (why.BadLine n fault))) s e a calm = let same = one_ending a.1.0 _ a.0 _ at_end (s.0.are_of a.1.0 a.1.1) a.1.2 in cc
completes_stream stream before after err err_now status (Err (Input why.InputTooLong)) s e a calm = let same = one_ending a.1.0 _ a.0 _ at_end (s.0.are_of a.1.0 a.1.1) a.1.2 in cc
completes_stream stream before after err err_now status (Err (Input why.ReadFault)) s e a calm = absurd (calm (inl s.1))
completes_stream stream before after err err_now status (Err (Input why.NoMemory)) s e a calm = inr (seven status err err_now e)
completes_stream stream before after err err_now status (Err (Taker (output.Write sink.Failed))) s e a calm = absurd (calm (inr s.2))
completes_stream stream before after err err_now status (Err (Taker output.NoMemory)) s e a calm = inr (seven status err err_now e)
completes_stream stream before after err err_now status (Err (Taker (output.Write sink.NoMemory))) s e a calm = inr (seven status err err_now e)

-- documents with which the input begins are some of all that it has
begins_all : (input : List ℕ) (ds all : List Json) → HasDocuments input all at_end → Begins input ds → (more : List Json) × (all ≡ ds ++ more)
begins_all input ds all has begins = (begins.0, (walks_once _ 0 all (ds ++ begins.0) at_end begins.1 has begins.2).documents)

-- no file whose footer is too long is one that is made
not_long : (load : Load) (n : ℕ) (rows all : List (Option Json)) (bytes : List ℕ) → (more : List (Option Json)) → all ≡ rows ++ more → body_of (format load) (cut_of (format load).is_full rows).closed ≡ Err n → made (format load) all ≡ Ok bytes → ⊥
not_long load n rows all bytes more e long whole =
    let stays = long_stays (format load) n rows more long in
    let is : made (format load) (rows ++ more) ≡ Ok bytes = subst (λ (rs : List (Option Json)). made (format load) rs ≡ Ok bytes) e whole in
    cc

rows_append : (ds es : List Json) → rows_of (ds ++ es) ≡ rows_of ds ++ rows_of es
rows_append [] es = refl
rows_append (d ∷ ds) es = ap (λ (rs : List (Option Json)). Some d ∷ rs) (rows_append ds es)

fits : (load : Load) (before after : World) (n : ℕ) → IsAdmitted (loads load) before → Overflows load (intake_in before) (intake_in after) n → ⊥
fits load before after n (all, (input, known, has), files, told, free, bytes, whole) (inl w) =
    let more = begins_all input w.documents all has (w.are_of input known) in
    not_long load n (rows_of w.documents) (rows_of all) bytes (rows_of more.0) (ap rows_of more.1 ∙ rows_append w.documents more.0) w.is_file.long whole
fits load before after n (all, (input, known, has), files, told, free, bytes, whole) (inr w) =
    let same = (walks_once _ 0 all w.documents at_end at_end has (w.are_of input known).0).documents in
    let long = w.is_file.long in
    let is : made (format load) (rows_of w.documents) ≡ Ok bytes = subst (λ (ds : List Json). made (format load) (rows_of ds) ≡ Ok bytes) same whole in
    cc

-- a name that is free isn't taken
is_free : (files : Option Files) (m : Files) (name : List ℕ) → files ≡ Some m → get m name ≡ None → Has files name → ⊥
is_free files m name told free has = let there : IsSome (get m name) = subst (λ (o : Option Files). Has o name) told has in false≢true (rw free at there)

completes_load : (load : Load) (before after : World) (err err_now : Device) (status : ℕ) (end : Result (Unit {0}) (Stop WriteError)) → Loads load (intake_in before) (intake_in after) end → Ends (load_end end) status err err_now
    → IsAdmitted (loads load) before → (HasFailed (loads load) before after → ⊥) → (status ≡ 0) ⊎ (status ≡ 7)
completes_load load before after err err_now status (Ok u) s e a calm = inl e.0
completes_load load before after err err_now status (Err (Input (why.BadLine n fault))) s e a calm = let same = one_ending a.1.0 _ a.0 _ at_end (s.0.are_of a.1.0 a.1.1) a.1.2 in cc
completes_load load before after err err_now status (Err (Input why.InputTooLong)) s e a calm = let same = one_ending a.1.0 _ a.0 _ at_end (s.0.are_of a.1.0 a.1.1) a.1.2 in cc
completes_load load before after err err_now status (Err (Input why.ReadFault)) s e a calm = absurd (calm (inl s.2))
completes_load load before after err err_now status (Err (Input why.NoMemory)) s e a calm = inr (seven status err err_now e)
completes_load load before after err err_now status (Err (Taker write.Taken)) s e a calm = absurd (is_free before.shelf.files a.2 load.out a.3 a.4 s.0)
completes_load load before after err err_now status (Err (Taker write.Failed)) s e a calm = absurd (calm (inr s.1))
completes_load load before after err err_now status (Err (Taker (write.FooterFull n))) s e a calm = absurd (fits load before after n a s.0)
completes_load load before after err err_now status (Err (Taker write.NoMemory)) s e a calm = inr (seven status err err_now e)
completes_load load before after err err_now status (Err (Taker (write.Broken first))) s e a calm = absurd s

-- a call on a file that did its work, or lacked memory
completes_file : (err err_now : Device) (status : ℕ) (end : Result (Unit {0}) FileError) → Ends (file_end end) status err err_now → IsDone end → (status ≡ 0) ⊎ (status ≡ 7)
completes_file err err_now status end e (inl is) = inl (subst (λ (d : Result (Unit {0}) FileError). Ends (file_end d) status err err_now) is e).0
completes_file err err_now status end e (inr is) = inr (seven status err err_now (subst (λ (d : Result (Unit {0}) FileError). Ends (file_end d) status err err_now) is e))

-- by the command that was done
completes_done : (command : Command) (before after : World) (err err_now : Device) (status : ℕ) (done : Result (Unit {0}) CommandError) → Does command before after done
    → Ends done status err err_now → IsAdmitted command before → (HasFailed command before after → ⊥) → (status ≡ 0) ⊎ (status ≡ 7)
completes_done (prints stream) before after err err_now status done does e a calm =
    completes_stream stream before after err err_now status does.0 does.2 (subst (λ (d : Result (Unit {0}) CommandError). Ends d status err err_now) does.1 e) a calm
completes_done (loads load) before after err err_now status done does e a calm =
    completes_load load before after err err_now status does.0 does.2 (subst (λ (d : Result (Unit {0}) CommandError). Ends d status err err_now) does.1 e) a calm
completes_done (queries query) before after err err_now status done does e a calm =
    completes_file err err_now status does.0 (subst (λ (d : Result (Unit {0}) CommandError). Ends d status err err_now) does.1 e) (query_done query (readout_in before) (readout_in after) does.0 does.2 a calm)
completes_done (checks check) before after err err_now status done does e a calm =
    completes_file err err_now status does.0 (subst (λ (d : Result (Unit {0}) CommandError). Ends d status err err_now) does.1 e) (check_done check (readout_in before) (readout_in after) does.0 does.2 a calm)

-- it is the one that the words ask for
completes_command : (words : List (List ℕ)) (done_so wanted : Command) (before after : World) (err err_now : Device) (status : ℕ) (done : Result (Unit {0}) CommandError) → AskFor words done_so → AskFor words wanted → Does done_so before after done
    → Ends done status err err_now → IsAdmitted wanted before → (HasFailed wanted before after → ⊥) → (status ≡ 0) ⊎ (status ≡ 7)
completes_command words done_so wanted before after err err_now status done f g does e a calm =
    let same = one_command words wanted done_so g f in
    completes_done done_so before after err err_now status done does e (subst (λ (c : Command). IsAdmitted c before) same a) (λ failed. calm (subst (λ (c : Command). HasFailed c before after) (sym same) failed))

pub completes : (words : List (List ℕ)) (before after : World) (err err_now : Device) (status : ℕ) (done : Result (Unit {0}) CommandError) → Runs words before after done → Ends done status err err_now → Completes words before after status
completes words before after err err_now status done (inl works) e = λ wanted ask a calm. completes_command words works.command wanted before after err err_now status done works.asked ask works.does e a calm
completes words before after err err_now status done (inr (inl refused)) e = λ wanted ask a calm. absurd (not_wrong words wanted refused.bad ask refused.wrong)
completes words before after err err_now status done (inr (inr lacking)) e = λ wanted ask a calm. inr (seven status err err_now (subst (λ (d : Result (Unit {0}) CommandError). Ends d status err err_now) lacking.answer_is e))
