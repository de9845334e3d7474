use Rattle.std.proofs.Common.{◌≡◌, ◌∙◌, ◌^◌, ℕ, ◌*ℤ◌, pos, ap, sym, int_cmp, arith, rules}
use Rattle.exact_num.proofs.Orders.{scale_order, minus_order, plus_order}
use Rattle.exact_num.proofs.Powers.{ten_some}
use Rattle.exact_num.proofs.ordering.cmp.Goals as goal

pub returns-then-scale : goal.returns-then-scale
returns-then-scale c =
    let integers : c.cmp.result ≡ int_cmp c.args.a.unscaled c.args.b.unscaled = search rules in
    let scales : c.args.b.scale ≡ c.args.a.scale = omega arith in
    integers
    ∙ scale_order c.args.a.unscaled c.args.b.unscaled (10 ^ c.args.b.scale) (ten_some c.args.b.scale)
    ∙ ap (λ (k : ℕ). int_cmp (c.args.a.unscaled *ℤ pos (10 ^ c.args.b.scale)) (c.args.b.unscaled *ℤ pos (10 ^ k))) scales

pub returns-in-true-false : goal.returns-in-true-false
returns-in-true-false c =
    minus_order c.args.a.unscaled c.args.b.unscaled (10 ^ c.args.b.scale) (10 ^ c.args.a.scale) (ten_some c.args.b.scale) (sym c.in-true-false.ensures) (sym c.in-true-false.ensures')

pub returns-in-false-true : goal.returns-in-false-true
returns-in-false-true c =
    plus_order c.args.a.unscaled c.args.b.unscaled (10 ^ c.args.b.scale) (10 ^ c.args.a.scale) (ten_some c.args.a.scale) (sym c.in-false-true.ensures) (sym c.in-false-true.ensures')
