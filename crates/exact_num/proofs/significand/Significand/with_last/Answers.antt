use Rattle.std.proofs.Common.{arith}
use Rattle.exact_num.proofs.Powers.{ten_times}
use Rattle.exact_num.proofs.Widths.{wide_zeros, wide_last}
use Rattle.exact_num.proofs.significand.Significand.with_last.Goals as goal

pub returns-then-self-ge38-clause-value : goal.returns-then-self-ge38-clause-value
returns-then-self-ge38-clause-value c =
    wide_zeros c.args.self.digits c.args.self.zeros c.args.digit (omega arith) (omega arith) (λ e. omega arith) (omega arith)

pub returns-in_err-tens-clause-value : goal.returns-in_err-tens-clause-value
returns-in_err-tens-clause-value c =
    rw c.from_residual.ensures (wide_last c.args.self.digits c.args.self.zeros c.args.digit (omega arith) (omega arith) c.in_err-tens.ensures)

pub returns-clause-value : goal.returns-clause-value
returns-clause-value c =
    let more = ten_times c.args.self.digits c.args.self.zeros 1 in omega (arith, c.in_ok-tens.ensures, more)

pub returns-clause-size : goal.returns-clause-size
returns-clause-size c =
    let more = ten_times c.args.self.digits c.args.self.zeros 1 in omega (arith, c.in_ok-tens.ensures, more)

pub returns-clause-lean : goal.returns-clause-lean
returns-clause-lean c =
    let more = ten_times c.args.self.digits c.args.self.zeros 1 in omega (arith, c.in_ok-tens.ensures, more)
