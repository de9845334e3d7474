use Rattle.std.proofs.Common.{◌∙◌, sym, arith}
use Rattle.exact_num.proofs.Places.{placed_high, placed_low}
use Rattle.exact_num.proofs.placing.placed.Goals as goal

pub returns-then-up-down : goal.returns-then-up-down
returns-then-up-down c = c.placed_up.ensures ∙ sym (placed_high c.args.minus c.args.digits c.args.up c.args.down (omega arith))

pub returns-else-up-down : goal.returns-else-up-down
returns-else-up-down c = c.placed_down.ensures ∙ sym (placed_low c.args.minus c.args.digits c.args.up c.args.down (omega arith) (omega arith))
