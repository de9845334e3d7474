use Rattle.std.proofs.Common.{arith}
use Rattle.exact_num.proofs.Powers.{ten_times}
use Rattle.exact_num.proofs.significand.Significand.with_digit.Goals as goal

pub returns-then-digit-eq0-clause-value : goal.returns-then-digit-eq0-clause-value
returns-then-digit-eq0-clause-value c =
    let more = ten_times c.args.self.digits c.args.self.zeros 1 in omega arith
