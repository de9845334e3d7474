use Rattle.std.proofs.Common.{sym, subst, Result}
use Rattle.command_parsing.specs.Commands.{file_query_of}
use Rattle.file_answers.specs.Answering.{AnswersQuery}
use Rattle.file_answers.specs.Beginning.{readout}
use Rattle.file_answers.specs.declared.file_error.FileError.{FileError}
use Rattle.file_answers.proofs.Beginnings.{answered}
use Rattle.file_answers.proofs.FileEnds.{query_ended}
use Rattle.file_answers.proofs.answering.answer_query.Goals as goal

pub returns-in-Ok : goal.returns-in-Ok
returns-in-Ok g c =
    let query = file_query_of c.args.asked in
    let s = g.S.Shelf.seen c.args.shelf.now in
    let t = g.S.Shelf.seen c.begin_file.new.shelf in
    let u = g.S.Shelf.seen c.query.new.shelf in
    let o = g.O.Sink.seen c.args.out.now in
    let p = g.O.Sink.seen c.query.new.out in
    let whole = query_ended query c.query.result (readout s o) (readout u p) (answered query c.in-Ok.begun s t u o p c.query.result c.in-Ok.ensures.begins c.query.ensures) in
    record { answers = subst (λ (r : Result (Unit {0}) FileError). AnswersQuery query (readout s o) (readout u p) r) (sym c.query_end.ensures) whole }
