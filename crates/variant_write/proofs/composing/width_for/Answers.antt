use Rattle.std.proofs.Common.{◌≤◌, arith}
use Rattle.variant_meta.proofs.Sizes.{wider}
use Rattle.variant_write.proofs.composing.width_for.Goals as goal

pub returns-clause-holds : goal.returns-clause-holds
returns-clause-holds c =
    let more : c.width_of.result ≤ c.max.result = omega (arith, c.max.ensures) in
    wider c.args.number c.width_of.result c.max.result more c.width_of.ensures.holds
