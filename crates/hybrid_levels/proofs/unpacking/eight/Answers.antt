use Rattle.std.proofs.Common.{◌∙◌, ap, ℕ, ◌*◌, arith}
use Rattle.std.proofs.Math.Nat.{mul_comm, div-one}
use Rattle.vs_bytes.specs.PackedNumbers.{unpacked, little}
use Rattle.hybrid_levels.proofs.Unpacked.{same_unpacked, joined}
use Rattle.hybrid_levels.proofs.unpacking.eight.Goals as goal

pub returns-then-width-le8 : goal.returns-then-width-le8
returns-then-width-le8 c =
    let turned = mul_comm c.args.width 8 in
    c.eight_of_word.ensures ∙ same_unpacked c.low_bytes.result (little c.args.bytes.now) (8 * c.args.width) c.args.width 8 c.low_bytes.ensures (omega (arith, turned))

pub returns : goal.returns
returns c =
    joined c.args.width (little c.args.bytes.now) c.four_from-low.result c.four_from-high.result
    (c.four_from-low.ensures ∙ ap (λ (n : ℕ). unpacked c.args.width 4 n) (div-one (little c.args.bytes.now)))
    c.four_from-high.ensures
