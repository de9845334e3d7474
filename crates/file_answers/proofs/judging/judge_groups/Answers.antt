use Rattle.std.proofs.Common.{sym, subst, Err}
use Rattle.file_answers.specs.Beginning.{readout}
use Rattle.file_answers.specs.Judging.{JudgesFile}
use Rattle.file_answers.specs.declared.file_error.FileError.{FileError}
use Rattle.file_answers.proofs.Beginnings.{judged}
use Rattle.file_answers.proofs.FileEnds.{check_ended, check_stopped}
use Rattle.file_answers.proofs.judging.judge_groups.Goals as goal

pub returns-in-Ok : goal.returns-in-Ok
returns-in-Ok g c =
    let t = g.S.Shelf.seen c.args.shelf.now in
    let u = g.S.Shelf.seen c.check.new.shelf in
    let o = g.O.Sink.seen c.args.out.now in
    let p = g.O.Sink.seen c.print_line.new.out in
    record {
      judges = λ check before b.
          check_ended check c.in-Ok.groups c.in-Ok.rows before u o p c.print_line.result (judged check c.args.begun.now before t u _ b c.in-Ok.ensures) c.print_line.ensures.prints;
    }

pub returns-in-Err : goal.returns-in-Err
returns-in-Err g c =
    let t = g.S.Shelf.seen c.args.shelf.now in
    let u = g.S.Shelf.seen c.check.new.shelf in
    let o = g.O.Sink.seen c.args.out.now in
    record {
      judges = λ check before b.
          subst (λ (why : FileError). JudgesFile check (readout before o) (readout u o) (Err why)) (sym c.error_of.ensures)
          (check_stopped check c.in-Err.fault before u o (judged check c.args.begun.now before t u _ b c.in-Err.ensures));
    }
