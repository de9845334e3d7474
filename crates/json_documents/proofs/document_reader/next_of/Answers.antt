use Rattle.std.proofs.Common.{List, ℕ, Ok, Err, subst}
use Rattle.json_documents.specs.Given.{ReadsLine}
use Rattle.json_documents.proofs.Calling.{line_given, line_stops, long_stops, end_gives, over_stops, read_stops, given_begins}
use Rattle.json_documents.proofs.document_reader.next_of.Goals as goal

pub returns-in-Ok-clause-gives : goal.returns-in-Ok-clause-gives
returns-in-Ok-clause-gives g c = λ input documents given.
    let one = c.in-Ok-Line in
    let read = subst (λ (bytes : List ℕ). ReadsLine one.number bytes (Ok c.in-Ok.tree)) c.as_slice.ensures c.in-Ok.ensures in
    line_given _ _ _ _ one.number one.bytes (rw one.field-0-is at one.ensures.call) input documents _ given read.0

pub returns-in-Ok-Line-clause-gives : goal.returns-in-Ok-Line-clause-gives
returns-in-Ok-Line-clause-gives g c = λ input documents given.
    let one = c.in-Ok-Line in
    let read = subst (λ (bytes : List ℕ). ReadsLine one.number bytes (Err c.in-Err.fault)) c.as_slice.ensures c.in-Err.ensures in
    line_stops _ _ _ _ one.number one.bytes c.in-Err.fault input documents (rw one.field-0-is at one.ensures.call) given read

pub returns-in-Ok-TooLong-clause-gives : goal.returns-in-Ok-TooLong-clause-gives
returns-in-Ok-TooLong-clause-gives g c = λ input documents given.
    long_stops _ _ _ _ c.in-Ok-TooLong.number input documents (rw c.in-Ok-TooLong.field-0-is at c.in-Ok-TooLong.ensures.call) given

pub returns-in-Ok-End-clause-gives : goal.returns-in-Ok-End-clause-gives
returns-in-Ok-End-clause-gives g c = λ input documents given.
    end_gives _ _ _ _ input documents (rw c.in-Ok-End.field-0-is at c.in-Ok-End.ensures.call) given

pub returns-in-Err-InputTooLong-clause-gives : goal.returns-in-Err-InputTooLong-clause-gives
returns-in-Err-InputTooLong-clause-gives g c = λ input documents given.
    over_stops _ _ _ _ input documents (rw c.in-Err-InputTooLong.field-0-is at c.in-Err-InputTooLong.ensures.call) given

pub returns-in-Err-ReadFault-clause-gives : goal.returns-in-Err-ReadFault-clause-gives
returns-in-Err-ReadFault-clause-gives g c = λ input documents given.
    read_stops _ _ _ _ input documents (rw c.in-Err-ReadFault.field-0-is at c.in-Err-ReadFault.ensures.call) given

pub returns-clause-gives : goal.returns-clause-gives
returns-clause-gives g c = λ input documents given. given_begins input _ _ documents given
