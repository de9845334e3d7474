use Rattle.std.proofs.Common.{◌*◌, ap, ℕ, arith}
use Rattle.exact_num.proofs.Orders.{rest_fits}
use Rattle.exact_num.proofs.ordering.cmp_rests.Goals as goal

pub overflow_mul-scaled : goal.overflow_mul-scaled
overflow_mul-scaled c =
    let fits = rest_fits c.args.a c.args.s c.args.t c.requires.a (omega arith) c.requires.t in
    let value = ap (λ (n : ℕ). c.args.a * n) c.power.ensures.value in
    omega (arith, fits, value)

pub overflow_mul-scaled-else-s-t : goal.overflow_mul-scaled-else-s-t
overflow_mul-scaled-else-s-t c =
    let fits = rest_fits c.args.b c.args.t c.args.s c.requires.b (omega arith) c.requires.s in
    let value = ap (λ (n : ℕ). c.args.b * n) c.power-else-s-t.ensures.value in
    omega (arith, fits, value)
