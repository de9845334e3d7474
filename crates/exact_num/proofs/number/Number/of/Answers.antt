use Rattle.std.proofs.Common.{to_z-of_z, SFits}
use mir.Syntax.{w128}
use Rattle.exact_num.specs.NumberOf.{decimal_of}
use Rattle.exact_num.proofs.Shortening.{integer_same}
use Rattle.exact_num.proofs.number.Number.of.Goals as goal

pub returns-clause-same : goal.returns-clause-same
returns-clause-same c =
    let fits : SFits w128 c.args.unscaled = c.ranges.unscaled in
    let size = rw (to_z-of_z fits) at c.unsigned_abs.ensures.value in
    let exact = rw (to_z-of_z fits) at c.of_size.ensures in
    integer_same c.args.unscaled c.args.scale (decimal_of c.of_size.result) (rw (← size) exact)
