use Rattle.std.proofs.Common.{◌∙◌, ap, ℕ, ◌%◌, ◌^◌, ◌*◌, arith}
use Rattle.hybrid_levels.proofs.Unpacked.{front_low}
use Rattle.hybrid_levels.proofs.unpacking.low_bytes_wide.Goals as goal

pub returns-then-bytes-ge16 : goal.returns-then-bytes-ge16
returns-then-bytes-ge16 c =
    ap (λ (n : ℕ). n % 2 ^ (8 * c.args.size)) c.read_u128.ensures
    ∙ front_low c.args.bytes.now 16 c.args.size (λ i. omega (arith, c.type_inv.bytes i)) c.requires.most

pub returns : goal.returns
returns c =
    ap (λ (n : ℕ). n % 2 ^ (8 * c.args.size)) c.read_uint128.ensures
    ∙ front_low c.args.bytes.now c.args.size c.args.size (λ i. omega (arith, c.type_inv.bytes i)) (omega arith)
