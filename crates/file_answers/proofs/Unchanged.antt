-- No call on a file changes a file.
use Rattle.std.proofs.Common.{◌≡◌, ◌∙◌, inl, inr, ap, ℕ, List, Result, Ok, Err}
use Rattle.shelf.specs.Storage.{Storage}
use Rattle.shelf.specs.declared.byte_range.ByteRange.{ByteRange}
use Rattle.thrift_footer.specs.declared.opening.OpenFault.{OpenFault}
use Rattle.thrift_footer.specs.declared.opening.OpenFault.TheVariants as fault
use Rattle.command_parsing.specs.Commands.{FileQuery}
use Rattle.command_words.specs.Check.{CheckGiven}
use Rattle.store_read.specs.Ranges.{AsksFirst}
use Rattle.store_file.specs.FileCalls.{query_plan, check_plan, AsksPlan}
use Rattle.store_file.specs.declared.file_faults.QueryFault.{QueryFault}
use Rattle.store_file.specs.declared.file_faults.QueryFault.TheVariants as stop
use Rattle.store_file.specs.declared.store_file.StoreFile.{StoreFile}
use Rattle.file_answers.specs.Beginning.{Readout, IsUnbegun, IsBegun}
use Rattle.file_answers.specs.Answering.{AnswersQuery, IsAnswered}
use Rattle.file_answers.specs.Judging.{JudgesFile, IsJudged}
use Rattle.file_answers.specs.declared.file_error.FileError.{FileError}
use Rattle.file_answers.specs.declared.file_error.FileError.TheVariants.{Absent, Violated, ReadFault, WriteFault, NoMemory}

at_unbegun : (name column : List ℕ) (why : OpenFault) (s t : Storage) → IsUnbegun name column why s t → t.files ≡ s.files
at_unbegun name column fault.Absent s t u = ap (λ (r : Storage). r.files) u.asks.leaves.2
at_unbegun name column fault.Failed s t u = ap (λ (r : Storage). r.files) u.asks.leaves.1
at_unbegun name column (fault.Refused rule) s t u = ap (λ (r : Storage). r.files) u.asks.leaves
at_unbegun name column fault.NoMemory s t u = ap (λ (r : Storage). r.files) u.asks.leaves

pub at_begun : (name column : List ℕ) (f : StoreFile) (s t : Storage) → IsBegun name column f s t → t.files ≡ s.files
at_begun name column f s t b = ap (λ (r : Storage). r.files) b.asks.leaves

pub counts_begun : (name column : List ℕ) (f : StoreFile) (s t : Storage) → IsBegun name column f s t → t.counts ≡ s.counts
counts_begun name column f s t b = ap (λ (r : Storage). r.counts) b.asks.leaves

at_first : (plan : List ByteRange) (s t : Storage) → AsksFirst s t plan → t.files ≡ s.files
at_first plan s t g = ap (λ (r : Storage). r.files) g.asked

at_plan : {A : Type 0} (broken : Type 0) (plan : List ByteRange) (s t : Storage) (done : Result A QueryFault) → (broken → t.files ≡ s.files) → AsksPlan broken plan s t done → t.files ≡ s.files
at_plan broken plan s t (Ok a) same g = ap (λ (r : Storage). r.files) g.asked
at_plan broken plan s t (Err (stop.Refused violation)) same g = at_first plan s t g
at_plan broken plan s t (Err stop.ReadFault) same g = ap (λ (r : Storage). r.files) g.asked
at_plan broken plan s t (Err stop.WriteFault) same g = same g
at_plan broken plan s t (Err stop.NoMemory) same g = at_first plan s t g

at_answered : (query : FileQuery) (done : Result (Unit {0}) QueryFault) (a b : Readout) → IsAnswered query done a b → b.shelf.files ≡ a.shelf.files
at_answered query done a b w = at_plan (AsksFirst w.between b.shelf (query_plan w.file query.asked)) (query_plan w.file query.asked) w.between b.shelf done (at_first (query_plan w.file query.asked) w.between b.shelf) w.asks ∙ at_begun query.file query.column w.file a.shelf w.between w.begun

at_judged : (check : CheckGiven) (done : Result (ℕ × ℕ) QueryFault) (s t : Storage) → IsJudged check done s t → t.files ≡ s.files
at_judged check done s t w = at_plan ⊥ (check_plan w.file) w.between t done (λ none. absurd none) w.asks ∙ at_begun check.file check.column w.file s w.between w.begun

pub files_after_query : (query : FileQuery) (a b : Readout) (done : Result (Unit {0}) FileError) → AnswersQuery query a b done → b.shelf.files ≡ a.shelf.files
files_after_query query a b (Ok u) h = at_answered query (Ok u) a b h
files_after_query query a b (Err Absent) h = at_unbegun query.file query.column fault.Absent a.shelf b.shelf h.leaves
files_after_query query a b (Err (Violated v)) (inl h) = at_unbegun query.file query.column (fault.Refused v.rule) a.shelf b.shelf h.leaves.unbegun
files_after_query query a b (Err (Violated v)) (inr h) = at_answered query (Err (stop.Refused v)) a b h
files_after_query query a b (Err ReadFault) (inl h) = at_unbegun query.file query.column fault.Failed a.shelf b.shelf h.leaves
files_after_query query a b (Err ReadFault) (inr h) = at_answered query (Err stop.ReadFault) a b h
files_after_query query a b (Err WriteFault) h = at_answered query (Err stop.WriteFault) a b h
files_after_query query a b (Err NoMemory) (inl h) = at_unbegun query.file query.column fault.NoMemory a.shelf b.shelf h.leaves
files_after_query query a b (Err NoMemory) (inr h) = at_answered query (Err stop.NoMemory) a b h

pub files_after_check : (check : CheckGiven) (a b : Readout) (done : Result (Unit {0}) FileError) → JudgesFile check a b done → b.shelf.files ≡ a.shelf.files
files_after_check check a b (Ok u) h = at_judged check (Ok (h.groups, h.rows)) a.shelf b.shelf h.judged
files_after_check check a b (Err Absent) h = at_unbegun check.file check.column fault.Absent a.shelf b.shelf h.leaves
files_after_check check a b (Err (Violated v)) (inl h) = at_unbegun check.file check.column (fault.Refused v.rule) a.shelf b.shelf h.leaves.unbegun
files_after_check check a b (Err (Violated v)) (inr h) = at_judged check (Err (stop.Refused v)) a.shelf b.shelf h.leaves
files_after_check check a b (Err ReadFault) (inl h) = at_unbegun check.file check.column fault.Failed a.shelf b.shelf h.leaves
files_after_check check a b (Err ReadFault) (inr h) = at_judged check (Err stop.ReadFault) a.shelf b.shelf h.leaves
files_after_check check a b (Err WriteFault) h = at_judged check (Ok (h.groups, h.rows)) a.shelf b.shelf h.judged
files_after_check check a b (Err NoMemory) (inl h) = at_unbegun check.file check.column fault.NoMemory a.shelf b.shelf h.leaves
files_after_check check a b (Err NoMemory) (inr (inl h)) = at_judged check (Err stop.NoMemory) a.shelf b.shelf h.leaves
files_after_check check a b (Err NoMemory) (inr (inr h)) = at_judged check (Ok (h.groups, h.rows)) a.shelf b.shelf h.judged
