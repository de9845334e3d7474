use Rattle.std.proofs.Common.{◌∙◌, sym, arith}
use Rattle.column_assembly.proofs.Passing.{passed_more, nulls_more}
use Rattle.column_assembly.proofs.leaf_range.take_nulls.Goals as goal

pub loop-leaf-preserved : goal.loop-leaf-preserved
loop-leaf-preserved c =
    let passed = c.loop-leaf.invariant.0 in (
      passed_more c.args.cursors.now c.loop-leaf.cursors c.take_null.new.cursors c.args.from c.loop-leaf.leaf c.args.lists (omega arith) passed (c.take_null.ensures.taken c.if-not-take_null.false),
      nulls_more c.args.cursors.now c.loop-leaf.cursors c.args.rep c.args.def c.args.lists c.args.from c.loop-leaf.leaf c.args.to (omega arith) (omega arith) passed (sym c.take_null.ensures.was ∙ c.if-not-take_null.false) ∙ c.loop-leaf.invariant.1,
    )
