use Rattle.std.proofs.Common.{◌≡◌, ◌<◌, ◌+◌, ◌/◌, ◌^◌, sym, subst, ℕ, arith}
use Rattle.hybrid_levels.proofs.Packed.{bytes_hold}
use Rattle.hybrid_levels.proofs.encoding.append_run.Goals as goal

pub append_number-requires-clause-fits : goal.append_number-requires-clause-fits
append_number-requires-clause-fits c =
    let size : c.div_ceil.result ≡ (c.args.width + 7) / 8 = omega (arith, c.div_ceil.ensures) in
    subst (λ (k : ℕ). c.args.number < 256 ^ k) (sym size) (bytes_hold c.args.number c.args.width c.requires.fits)
