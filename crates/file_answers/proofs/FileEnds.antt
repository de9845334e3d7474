-- The ends of calls on files, in the words of the commands.
use Rattle.std.proofs.Common.{inl, inr, refl, ℕ, Result, Ok, Err, arith}
use Rattle.std.proofs.KnownBytes.{Appends-nil}
use Rattle.outside.specs.Devices.{Device}
use Rattle.shelf.specs.Storage.{Storage}
use Rattle.command_parsing.specs.Commands.{FileQuery}
use Rattle.command_words.specs.Check.{CheckGiven}
use Rattle.store_file.specs.declared.file_faults.QueryFault.{QueryFault}
use Rattle.store_file.specs.declared.file_faults.QueryFault.TheVariants as stop
use Rattle.file_answers.specs.Beginning.{Readout, readout}
use Rattle.file_answers.specs.Answering.{AnswersQuery, IsAnswered, error_of, query_end}
use Rattle.file_answers.specs.Judging.{JudgesFile, IsJudged, IsShort, PrintsLine, count_line}
use Rattle.file_answers.specs.declared.file_error.FileError.{FileError}
use Rattle.file_answers.specs.declared.file_error.FileError.TheVariants.{Absent, Violated, ReadFault, WriteFault, NoMemory}

pub query_ended : (query : FileQuery) (done : Result (Unit {0}) QueryFault) (a b : Readout) → IsAnswered query done a b → AnswersQuery query a b (query_end done)
query_ended query (Ok u) a b w = w
query_ended query (Err (stop.Refused v)) a b w = inr w
query_ended query (Err stop.ReadFault) a b w = inr w
query_ended query (Err stop.WriteFault) a b w = w
query_ended query (Err stop.NoMemory) a b w = inr w

-- nothing of the line was printed
pub short_line : (groups rows : ℕ) (o : Device) → IsShort (count_line groups rows) o o
short_line groups rows o = ((0, omega arith, Appends-nil o.bytes), refl)

pub check_stopped : (check : CheckGiven) (why : QueryFault) (s t : Storage) (o : Device) → IsJudged check (Err why) s t → JudgesFile check (readout s o) (readout t o) (Err (error_of why))
check_stopped check (stop.Refused v) s t o j = inr (record { leaves = j; same_out = refl })
check_stopped check stop.ReadFault s t o j = inr (record { leaves = j; same_out = refl })
check_stopped check stop.WriteFault s t o j = absurd j.asks
check_stopped check stop.NoMemory s t o j = inr (inl (record { leaves = j; same_out = refl }))

pub check_ended : (check : CheckGiven) (groups rows : ℕ) (s t : Storage) (o p : Device) (done : Result (Unit {0}) FileError) → IsJudged check (Ok (groups, rows)) s t → PrintsLine (count_line groups rows) o p done
    → JudgesFile check (readout s o) (readout t p) done
check_ended check groups rows s t o p (Ok u) j h = record { groups = groups; rows = rows; judged = j; prints = h }
check_ended check groups rows s t o p (Err Absent) j h = absurd h
check_ended check groups rows s t o p (Err (Violated v)) j h = absurd h
check_ended check groups rows s t o p (Err ReadFault) j h = absurd h
check_ended check groups rows s t o p (Err WriteFault) j h = record { groups = groups; rows = rows; judged = j; prints = h }
check_ended check groups rows s t o p (Err NoMemory) j h = inr (inr (record { groups = groups; rows = rows; judged = j; prints = h }))
