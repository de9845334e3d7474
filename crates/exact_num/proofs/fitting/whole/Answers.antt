use Rattle.std.proofs.Common.{arith}
use Rattle.exact_num.specs.NumberOf.{decimal_of}
use Rattle.exact_num.proofs.Scales.{over_less}
use Rattle.exact_num.proofs.fitting.whole.Goals as goal

pub returns-then-scale-ne0 : goal.returns-then-scale-ne0
returns-then-scale-ne0 c = λ n fits e.
    over_less (decimal_of c.args.number) n 0 (record { lean = c.args.number.least }) (omega arith) e
