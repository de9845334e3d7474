use Rattle.std.proofs.Common.{arith}
use Rattle.vs_bytes.proofs.Numbers.{more_bytes}
use Rattle.vs_bytes.proofs.little_endian.width_of.Goals as goal

pub returns-then-number-lt16777216-clause-least : goal.returns-then-number-lt16777216-clause-least
returns-then-number-lt16777216-clause-least c =
    λ width _ high. more_bytes c.args.number 2 width (omega (arith, c.if-number-lt65536.false)) high

pub returns-else-number-lt16777216-clause-least : goal.returns-else-number-lt16777216-clause-least
returns-else-number-lt16777216-clause-least c =
    λ width _ high. more_bytes c.args.number 3 width (omega (arith, c.if-number-lt16777216.false)) high
