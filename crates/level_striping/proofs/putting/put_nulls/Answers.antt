use Rattle.std.proofs.Common.{arith}
use Rattle.level_striping.proofs.Walks.{nulls_none, nulls_more}
use Rattle.level_striping.proofs.putting.put_nulls.Goals as goal

pub loop-leaf-init : goal.loop-leaf-init
loop-leaf-init c = nulls_none c.args.leaves.now c.args.from c.args.levels.rep c.args.levels.def

pub loop-leaf-preserved : goal.loop-leaf-preserved
loop-leaf-preserved c = nulls_more c.args.leaves.now c.loop-leaf.leaves c.put_null.new.leaves c.args.from c.loop-leaf.leaf c.args.levels.rep c.args.levels.def (omega arith) c.loop-leaf.invariant c.in_ok-put_null.ensures
