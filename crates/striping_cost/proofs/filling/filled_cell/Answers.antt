use Rattle.striping_cost.proofs.Filled.{number_filled}
use Rattle.striping_cost.proofs.filling.filled_cell.Goals as goal

pub returns-in-Int64 : goal.returns-in-Int64
returns-in-Int64 c = number_filled c.args.prim c.in-Int64.is
