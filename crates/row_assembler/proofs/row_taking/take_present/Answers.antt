use Rattle.std.proofs.Common.{Some, None}
use Rattle.std.proofs.lemmas.Result.{err_from_is_err_and}
use Rattle.vs_bytes.proofs.Refusals.{fails}
use Rattle.shred_schema.specs.Views.{group_of, rec_of}
use Rattle.row_assembler.proofs.RowsKept.{present_taken}
use Rattle.row_assembler.proofs.row_taking.take_present.Goals as goal

pub returns-in_err-found-clause-read : goal.returns-in_err-found-clause-read
returns-in_err-found-clause-read c =
    let p = err_from_is_err_and c.from_residual-in_err-found.result c.from_residual-in_err-found.ensures.1 in
    rw (p.1, p.2) (fails c.in_err-found.field-0.0 _ _ c.in_err-found.ensures.read (λ none. present_taken c.args.meta (group_of c.args.node.now) c.args.def c.meta_width-first.result c.args.cursors.now c.take_meta.new.cursors c.in_ok-bytes.bytes None c.meta_width-first.ensures c.in_ok-bytes.ensures.read c.in_ok-bytes.ensures.passed none))

pub returns-clause-read : goal.returns-clause-read
returns-clause-read c = present_taken c.args.meta (group_of c.args.node.now) c.args.def c.meta_width-first.result c.args.cursors.now c.take_meta.new.cursors c.in_ok-bytes.bytes (Some (rec_of c.in_ok-found.found)) c.meta_width-first.ensures c.in_ok-bytes.ensures.read c.in_ok-bytes.ensures.passed c.in_ok-found.ensures.read
