use Rattle.std.proofs.Common.{◌*◌, ◌^◌, arith}
use Rattle.exact_num.specs.Spelling.{digits_value}
use Rattle.exact_num.proofs.Widths.{wide_turn}
use Rattle.exact_num.proofs.significand.Significand.with_digits.Goals as goal

pub returns-in_err-now-clause-value : goal.returns-in_err-now-clause-value
returns-in_err-now-clause-value c =
    rw c.from_residual.ensures (wide_turn c.args.digits.now c.loop-byte.byte-index (c.loop-byte.now.digits * 10 ^ c.loop-byte.now.zeros) (digits_value (c.args.self.digits * 10 ^ c.args.self.zeros) c.args.digits.now) c.requires.all (omega arith) c.loop-byte.invariant.value c.in_err-now.ensures.value)
