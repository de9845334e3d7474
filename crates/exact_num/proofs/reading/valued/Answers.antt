use Rattle.std.proofs.Common.{◌∙◌, sym}
use Rattle.exact_num.proofs.Values.{plain_number}
use Rattle.exact_num.proofs.reading.valued.Goals as goal

pub returns-in-Some : goal.returns-in-Some
returns-in-Some c = λ e cut.
    sym c.in-Some.ensures ∙ plain_number c.args.minus c.args.whole.now c.args.fraction.now c.args.exponent e cut c.if-exponent-eq0.true
