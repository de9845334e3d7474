use Rattle.std.proofs.Common.{ap, ℕ, nat_eq, arith}
use Rattle.plain_values.proofs.Bits.{bit_is}
use Rattle.plain_values.proofs.booleans.truth_at.Goals as goal

pub returns : goal.returns
returns c = ap (λ (n : ℕ). nat_eq n 1) (bit_is c.args.bytes.now c.args.place c.requires (λ i. omega (arith, c.type_inv.bytes i)))
