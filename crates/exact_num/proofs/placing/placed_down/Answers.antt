use Rattle.std.proofs.Common.{◌∙◌, sym, ap, arith, Some}
use Rattle.exact_num.specs.Decimal.{Decimal}
use Rattle.exact_num.proofs.Places.{admitted_least}
use Rattle.exact_num.proofs.placing.placed_down.Goals as goal

pub returns : goal.returns
returns c =
    ap (λ (d : Decimal). Some d) c.of_size.ensures
    ∙ sym (admitted_least c.args.minus c.args.digits c.args.by (omega arith) (omega arith) (λ e. absurd (omega arith)))
