-- Where the file is there, violates nothing and no device fails, nothing is left but the work, or no memory.
use Rattle.std.proofs.Common.{inl, inr, refl, ap, subst, ℕ, List, Result, Ok, Err}
use Rattle.shelf.specs.Storage.{Storage, FailsRead}
use Rattle.shelf.specs.declared.tally.Counts.{Counts}
use Rattle.command_parsing.specs.Commands.{FileQuery}
use Rattle.command_words.specs.Check.{CheckGiven}
use Rattle.store_file.specs.SeenGroups.{Seen}
use Rattle.store_file.specs.declared.store_file.StoreFile.{StoreFile}
use Rattle.file_answers.specs.Beginning.{Readout, IsBegun, HasFault}
use Rattle.file_answers.specs.Answering.{AnswersQuery}
use Rattle.file_answers.specs.Judging.{JudgesFile}
use Rattle.file_answers.specs.Completing.{IsAnswerable, IsJudgeable, IsDone}
use Rattle.file_answers.specs.declared.file_error.FileError.{FileError}
use Rattle.file_answers.specs.declared.file_error.FileError.TheVariants.{Absent, Violated, ReadFault, WriteFault, NoMemory}
use Rattle.file_answers.proofs.Unchanged.{counts_begun}

-- a read that failed after the beginning failed in the call
read_failed : (name column : List ℕ) (f : StoreFile) (s t u : Storage) → IsBegun name column f s t → FailsRead t.counts u.counts → FailsRead s.counts u.counts
read_failed name column f s t u b h = subst (λ (c : Counts). FailsRead c u.counts) (counts_begun name column f s t b) h

pub query_done : (query : FileQuery) (a b : Readout) (done : Result (Unit {0}) FileError) → AnswersQuery query a b done → IsAnswerable query a → (HasFault a b → ⊥) → IsDone done
query_done query a b (Ok u) h s calm = inl refl
query_done query a b (Err Absent) h s calm = absurd (h.leaves.of_file s.bytes s.there)
query_done query a b (Err (Violated v)) (inl h) s calm = absurd (s.sound v (inl (record { whole = h.leaves.whole; wrong = h.leaves.unbegun.of_file s.bytes s.there })))
query_done query a b (Err (Violated v)) (inr h) s calm = absurd (s.sound v (inr (record {
  file = h.file;
  usable = h.begun.usable;
  is_of = h.begun.of_file s.bytes s.there;
  met = ap (λ (seen : Seen ℕ). seen.stop) (h.answers s.bytes s.there).lines;
})))
query_done query a b (Err ReadFault) (inl h) s calm = absurd (calm (inl h.leaves.asks.leaves.0))
query_done query a b (Err ReadFault) (inr h) s calm = absurd (calm (inl (read_failed query.file query.column h.file a.shelf h.between b.shelf h.begun h.asks.failed)))
query_done query a b (Err WriteFault) h s calm = absurd (calm (inr h.counts))
query_done query a b (Err NoMemory) h s calm = inr refl

pub check_done : (check : CheckGiven) (a b : Readout) (done : Result (Unit {0}) FileError) → JudgesFile check a b done → IsJudgeable check a → (HasFault a b → ⊥) → IsDone done
check_done check a b (Ok u) h s calm = inl refl
check_done check a b (Err Absent) h s calm = absurd (h.leaves.of_file s.bytes s.there)
check_done check a b (Err (Violated v)) (inl h) s calm = absurd (s.sound v (inl (record { whole = h.leaves.whole; wrong = h.leaves.unbegun.of_file s.bytes s.there })))
check_done check a b (Err (Violated v)) (inr h) s calm = absurd (s.sound v (inr (record { file = h.leaves.file; usable = h.leaves.begun.usable; is_of = h.leaves.begun.of_file s.bytes s.there; met = h.leaves.judges s.bytes s.there })))
check_done check a b (Err ReadFault) (inl h) s calm = absurd (calm (inl h.leaves.asks.leaves.0))
check_done check a b (Err ReadFault) (inr h) s calm = absurd (calm (inl (read_failed check.file check.column h.leaves.file a.shelf h.leaves.between b.shelf h.leaves.begun h.leaves.asks.failed)))
check_done check a b (Err WriteFault) h s calm = absurd (calm (inr h.prints.1))
check_done check a b (Err NoMemory) h s calm = inr refl
