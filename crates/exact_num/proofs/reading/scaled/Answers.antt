use Rattle.std.proofs.Common.{◌∙◌, ◌<◌, ◌^◌, length, rules}
use Rattle.exact_num.proofs.Values.{wide_number, zero_number, up_number, down_number, lean_some}
use Rattle.exact_num.proofs.reading.scaled.Goals as goal

pub returns-in-None : goal.returns-in-None
returns-in-None c = λ e cut. wide_number c.args.minus c.args.whole.now c.args.fraction.now e c.in-None.ensures.value

pub returns-then-all-eq0 : goal.returns-then-all-eq0
returns-then-all-eq0 c = λ e cut.
    zero_number c.args.minus c.args.whole.now c.args.fraction.now e c.in-Some.all.digits c.in-Some.all.zeros c.if-all-eq0.true c.in-Some.ensures.value

pub returns-then-exponent : goal.returns-then-exponent
returns-then-exponent c = λ e cut.
    let lean = lean_some c.in-Some.all.digits c.in-Some.all.lean c.if-all-eq0.false in
    let down = down_number c.args.minus c.args.whole.now c.args.fraction.now c.args.exponent e c.in-Some.all.digits c.in-Some.all.zeros cut c.if-exponent.true lean c.in-Some.ensures.zeros c.in-Some.ensures.value in
    c.placed.ensures ∙ down

pub returns-else-exponent : goal.returns-else-exponent
returns-else-exponent c = λ e cut.
    let lean = lean_some c.in-Some.all.digits c.in-Some.all.lean c.if-all-eq0.false in
    let short : length c.args.fraction.now < 2 ^ 64 = search rules in
    let up = up_number c.args.minus c.args.whole.now c.args.fraction.now c.args.exponent e c.in-Some.all.digits c.in-Some.all.zeros cut c.if-exponent.false lean short c.in-Some.ensures.value in
    c.placed-else-exponent.ensures ∙ up
