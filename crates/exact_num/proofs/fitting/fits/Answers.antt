use Rattle.std.proofs.Common.{◌≡◌, ◌∙◌, ◌*◌, ◌^◌, ◌-◌, ap, ap₂, ℕ, Bool, unsigned_abs, SFits, to_z-of_z, arith, rules}
use mir.Syntax.{w128}
use Rattle.exact_num.specs.Decimal.{signed}
use Rattle.exact_num.specs.NumberOf.{decimal_of}
use Rattle.exact_num.proofs.Scales.{over_less, over_is, over_wide}
use Rattle.exact_num.proofs.Powers.{ten_rises}
use Rattle.exact_num.proofs.fitting.fits.Goals as goal

pub returns-then-scale : goal.returns-then-scale
returns-then-scale c = λ u over.
    over_less (decimal_of c.args.number) u c.args.scale (record { lean = c.args.number.least }) (omega arith) over.same

-- the digits and the zeros that were asked for
pub returns-in-Some : goal.returns-in-Some
returns-in-Some c =
    let fits : SFits w128 c.with_sign.result = search rules in
    let size : c.in-Some.size ≡ unsigned_abs c.args.number.unscaled * 10 ^ (c.args.scale - c.args.number.scale) =
    c.in-Some.ensures.0 ∙ ap₂ (λ (n k : ℕ). n * 10 ^ (c.args.scale - k)) c.size.ensures.value c.scale-2.ensures.value in
    rw (to_z-of_z fits) (over_is (decimal_of c.args.number) c.args.precision c.args.scale c.in-Some.size c.with_sign.result (omega arith) size (omega arith) (c.with_sign.ensures.value ∙ ap (λ (b : Bool). signed b c.in-Some.size) c.is_minus.ensures))

pub returns-in-Some-2 : goal.returns-in-Some-2
returns-in-Some-2 c = λ u over.
    let size : c.in-Some.size ≡ unsigned_abs c.args.number.unscaled * 10 ^ (c.args.scale - c.args.number.scale) =
    c.in-Some.ensures.0 ∙ ap₂ (λ (n k : ℕ). n * 10 ^ (c.args.scale - k)) c.size.ensures.value c.scale-2.ensures.value in
    over_wide (decimal_of c.args.number) c.args.precision c.args.scale u (omega arith) (omega (arith, size)) over

pub returns-in-None : goal.returns-in-None
returns-in-None c = λ u over.
    let size = ap₂ (λ (n k : ℕ). n * 10 ^ (c.args.scale - k)) c.size.ensures.value c.scale-2.ensures.value in
    let rises = ten_rises c.args.precision 38 c.requires.precision in
    over_wide (decimal_of c.args.number) c.args.precision c.args.scale u (omega arith) (omega (arith, size, rises, c.in-None.ensures)) over
