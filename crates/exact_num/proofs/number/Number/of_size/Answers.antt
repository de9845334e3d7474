use Rattle.std.proofs.Common.{◌≡◌, ◌%◌, arith, rules, to_z-of_z, SFits, to_z, of_z, ℕ, unsigned_abs, ap, sym, ◌∙◌}
use mir.Syntax.{w128}
use Rattle.exact_num.proofs.Shortening.{pair_size, pair_places, pair_least}
use Rattle.exact_num.proofs.number.Number.of_size.Goals as goal

pub with_sign-requires : goal.with_sign-requires
with_sign-requires c =
    let size = pair_size c.args.size c.args.places c.trimmed-size.result.0 c.trimmed-size.result.1 c.trimmed-size.ensures in
    omega (arith, size, c.requires.size)

pub invariant_of-result-clause-size : goal.invariant_of-result-clause-size
invariant_of-result-clause-size c =
    let fits : SFits w128 c.with_sign.result = search rules in
    let size = pair_size c.args.size c.args.places c.trimmed-size.result.0 c.trimmed-size.result.1 c.trimmed-size.ensures in
    rw (to_z-of_z fits) (omega (arith, size, c.requires.size, c.with_sign.ensures.size))

pub invariant_of-result-clause-places : goal.invariant_of-result-clause-places
invariant_of-result-clause-places c =
    let places = pair_places c.args.size c.args.places c.trimmed-size.result.0 c.trimmed-size.result.1 c.trimmed-size.ensures in
    omega (arith, places, c.requires.places)

pub invariant_of-result-clause-least : goal.invariant_of-result-clause-least
invariant_of-result-clause-least c = λ e.
    let fits : SFits w128 c.with_sign.result = search rules in
    let size : unsigned_abs (to_z w128 (of_z w128 c.with_sign.result)) ≡ c.trimmed-size.result.0 = rw (to_z-of_z fits) c.with_sign.ensures.size in
    c.from.ensures ∙ pair_least c.args.size c.args.places c.trimmed-size.result.0 c.trimmed-size.result.1 c.trimmed-size.ensures (ap (λ (n : ℕ). n % 10) (sym size) ∙ e)
