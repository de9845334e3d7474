-- A call of the program that ends at 0 did what its words ask for.
use Rattle.std.proofs.Common.{◌≡◌, subst, sym, ℕ, List, Some, Result, Ok, Err}
use Rattle.json_documents.specs.declared.faults.Stop.{Stop}
use Rattle.json_documents.specs.declared.faults.Stop.TheVariants.{Input, Taker}
use Rattle.shelf.specs.Storage.{Files}
use Rattle.query_tree.specs.Asked.{Asked}
use Rattle.command_words.specs.Check.{CheckGiven}
use Rattle.command_parsing.specs.Commands.{Load, FileQuery}
use Rattle.store_write.specs.declared.write_error.WriteError.{WriteError}
use Rattle.document_loading.specs.Loading.{Loads}
use Rattle.file_answers.specs.Answering.{AnswersQuery}
use Rattle.file_answers.specs.Judging.{JudgesFile}
use Rattle.file_answers.specs.declared.file_error.FileError.{FileError}
use Rattle.file_answers.specs.declared.file_error.FileError.TheVariants as file
use Rattle.variant_store.specs.Commands.{Command, prints, loads, queries, checks, AskFor}
use Rattle.variant_store.specs.Ends.{stream_end, load_end, file_end}
use Rattle.variant_store.specs.Stream.{Stream, scan}
use Rattle.variant_store.specs.Streaming.{Streams}
use Rattle.variant_store.specs.Top.{Does, Works}
use Rattle.variant_store.specs.World.{World, pipe_in, intake_in, readout_in}
use Rattle.variant_store.specs.declared.gatherer.OutputFault.{OutputFault}
use Rattle.variant_store.proofs.AskedCommands.{one_command}
use Rattle.file_laws.specs.Loaded.{CanLoad, IsLoaded}

-- what was done is what the words ask for
does_asked : (words : List (List ℕ)) (command : Command) (before after : World) → AskFor words command → Works words before after (Ok tt) → Does command before after (Ok tt)
does_asked words command before after asks works = subst (λ (c : Command). Does c before after (Ok tt)) (sym (one_command words command works.command asks works.asked)) works.does

-- a part of a command that ended well

load_ended : (load : Load) (before after : World) (end : Result (Unit {0}) (Stop WriteError)) → Ok tt ≡ load_end end → Loads load (intake_in before) (intake_in after) end → Loads load (intake_in before) (intake_in after) (Ok tt)
load_ended load before after (Ok u) e h = h
load_ended load before after (Err (Input fault)) e h = cc
load_ended load before after (Err (Taker fault)) e h = cc

query_ended : (query : FileQuery) (before after : World) (end : Result (Unit {0}) FileError) → Ok tt ≡ file_end end → AnswersQuery query (readout_in before) (readout_in after) end → AnswersQuery query (readout_in before) (readout_in after) (Ok tt)
query_ended query before after (Ok u) e h = h
query_ended query before after (Err file.Absent) e h = cc
query_ended query before after (Err (file.Violated violation)) e h = cc
query_ended query before after (Err file.ReadFault) e h = cc
query_ended query before after (Err file.WriteFault) e h = cc
query_ended query before after (Err file.NoMemory) e h = cc

check_ended : (check : CheckGiven) (before after : World) (end : Result (Unit {0}) FileError) → Ok tt ≡ file_end end → JudgesFile check (readout_in before) (readout_in after) end → JudgesFile check (readout_in before) (readout_in after) (Ok tt)
check_ended check before after (Ok u) e h = h
check_ended check before after (Err file.Absent) e h = cc
check_ended check before after (Err (file.Violated violation)) e h = cc
check_ended check before after (Err file.ReadFault) e h = cc
check_ended check before after (Err file.WriteFault) e h = cc
check_ended check before after (Err file.NoMemory) e h = cc

stream_ended : (stream : Stream) (before after : World) (end : Result (Unit {0}) (Stop OutputFault)) → Ok tt ≡ stream_end end → Streams stream (pipe_in before) (pipe_in after) end → Streams stream (pipe_in before) (pipe_in after) (Ok tt)
stream_ended stream before after (Ok u) e h = h
stream_ended stream before after (Err (Input fault)) e h = cc
stream_ended stream before after (Err (Taker fault)) e h = cc

-- the whole call

pub load_done : (words : List (List ℕ)) (load : Load) (before after : World) (input : List ℕ) (files : Files) → AskFor words (loads load) → Works words before after (Ok tt) → before.input.bytes ≡ Some input → before.shelf.files ≡ Some files → CanLoad load
    → IsLoaded load input (intake_in before) (intake_in after)
load_done words load before after input files asks works is_input are_files can =
    let does = does_asked words (loads load) before after asks works in
    record { can = can; is_input = is_input; files = files; are_files = are_files; loads = load_ended load before after does.0 does.1 does.2 }

pub query_done : (words : List (List ℕ)) (query : FileQuery) (before after : World) → AskFor words (queries query) → Works words before after (Ok tt) → AnswersQuery query (readout_in before) (readout_in after) (Ok tt)
query_done words query before after asks works =
    let does = does_asked words (queries query) before after asks works in
    query_ended query before after does.0 does.1 does.2

pub check_done : (words : List (List ℕ)) (check : CheckGiven) (before after : World) → AskFor words (checks check) → Works words before after (Ok tt) → JudgesFile check (readout_in before) (readout_in after) (Ok tt)
check_done words check before after asks works =
    let does = does_asked words (checks check) before after asks works in
    check_ended check before after does.0 does.1 does.2

pub scan_done : (words : List (List ℕ)) (asked : Asked) (before after : World) → AskFor words (prints (scan asked)) → Works words before after (Ok tt) → Streams (scan asked) (pipe_in before) (pipe_in after) (Ok tt)
scan_done words asked before after asks works =
    let does = does_asked words (prints (scan asked)) before after asks works in
    stream_ended (scan asked) before after does.0 does.1 does.2
