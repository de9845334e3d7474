use Rattle.std.proofs.Common.{◌≡◌, ◌∙◌, sym, ap, length, ◌-◌, false, arith}
use Rattle.shred_schema.specs.Ranges.{every}
use Rattle.shred_schema.specs.Views.{group_of}
use Rattle.record_assembly.specs.Reading.{are_null}
use Rattle.column_assembly.specs.Leaves.{heads}
use Rattle.row_assembler.proofs.RowsKept.{row_broken}
use Rattle.row_assembler.proofs.row_taking.take_row.Goals as goal

pub returns-then-not-take_nulls-clause-read : goal.returns-then-not-take_nulls-clause-read
returns-then-not-take_nulls-clause-read c =
    let count : length c.args.cursors.now - 0 ≡ length c.args.cursors.now = omega arith in
    let rest : are_null every 0 (length c.args.cursors.now) 0 0 (heads 0 c.args.cursors.now) ≡ false = sym (ap (λ w. are_null every 0 w 0 0 (heads 0 c.args.cursors.now)) count) ∙ (sym c.take_nulls.ensures.were ∙ c.if-not-take_nulls.true) in
    rw c.if-not-optional.false (row_broken c.args.meta (group_of c.args.node.now) (heads 0 c.args.cursors.now) (length c.args.cursors.now) c.requires.all c.requires.some (sym c.is_null.ensures ∙ c.if-is_null.true) rest)
