use Rattle.std.proofs.Common.{◌∙◌, sym, ap, arith, Some, ℕ}
use Rattle.exact_num.specs.Decimal.{Decimal, admitted}
use Rattle.exact_num.proofs.Places.{high_wide, admitted_least}
use Rattle.exact_num.proofs.placing.placed_up.Goals as goal

pub returns-then-by-gt38 : goal.returns-then-by-gt38
returns-then-by-gt38 c = sym (high_wide c.args.minus c.args.digits c.args.by (omega arith) (omega arith))

pub returns-in-Some : goal.returns-in-Some
returns-in-Some c =
    ap (λ (d : Decimal). Some d) c.of_size.ensures
    ∙ sym (admitted_least c.args.minus c.in-Some.size 0 (omega (arith, c.in-Some.ensures)) (omega arith) (λ _. omega arith))
    ∙ ap (λ (n : ℕ). admitted c.args.minus n 0) c.in-Some.ensures.0
