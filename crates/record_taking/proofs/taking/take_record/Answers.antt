use Rattle.std.proofs.Common.{◌∙◌, sym, ap, Some, None}
use Rattle.std.proofs.lemmas.Result.{err_from_is_err_and}
use Rattle.vs_bytes.proofs.Refusals.{fails}
use Rattle.shred_schema.specs.Views.{kind_of}
use Rattle.shred_schema.proofs.Viewed.{node_is, rec_is}
use Rattle.record_taking.proofs.Joined.{passed_both}
use Rattle.record_taking.proofs.PartsTaken.{record_read}
use Rattle.record_taking.proofs.taking.take_record.Goals as goal

pub returns-in_err-typed-clause-read : goal.returns-in_err-typed-clause-read
returns-in_err-typed-clause-read c =
    let p = err_from_is_err_and c.from_residual.result c.from_residual.ensures.1 in
    rw (p.1, p.2) (fails c.in_err-typed.field-0.0 _ _ c.in_err-typed.ensures.read (λ none. rw (node_is c.args.node.now)
    (record_read c.args.node.now.value (kind_of c.args.node.now.typed) c.args.leaf c.args.levels.rep c.args.levels.lists c.args.levels.def c.args.cursors.now c.take_value-taken.new.cursors c.in-Some.value None (sym c.in-Some.ensures.value) c.in-Some.ensures.passed (rw c.slot_width.ensures at none))))

pub returns-clause-read : goal.returns-clause-read
returns-clause-read c =
    rw (node_is c.args.node.now)
    (record_read c.args.node.now.value (kind_of c.args.node.now.typed) c.args.leaf c.args.levels.rep c.args.levels.lists c.args.levels.def c.args.cursors.now c.take_value-taken.new.cursors c.in-Some.value _ (sym c.in-Some.ensures.value) c.in-Some.ensures.passed (rw c.slot_width.ensures at c.in_ok-typed.ensures.read)
    ∙ ap Some (sym (rec_is _)))

pub returns-clause-passed : goal.returns-clause-passed
returns-clause-passed c =
    rw (node_is c.args.node.now)
    (passed_both c.args.cursors.now c.take_value-taken.new.cursors c.take_typed.new.cursors c.args.leaf _ _ c.args.levels.lists c.in-Some.ensures.passed (rw c.slot_width.ensures at c.in_ok-typed.ensures.passed))
