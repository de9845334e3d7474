use Rattle.std.proofs.Common.{◌≡◌, ◌+◌, length, arith}
use Rattle.exact_num.specs.Text.{size_text}
use Rattle.exact_num.proofs.TextLengths.{whole_len, point_len, not_zero}
use Rattle.exact_num.proofs.printing.size_len.Goals as goal

pub returns-then-scale-eq0 : goal.returns-then-scale-eq0
returns-then-scale-eq0 c =
    let same : length (size_text c.args.size c.args.scale) ≡ length c.format.result.now =
    whole_len c.args.size c.args.scale c.power.result c.parts-whole.result.0 c.format.result.now c.format.ensures.text c.parts-whole.ensures.whole c.power.ensures.value c.if-scale-eq0.true in
    omega (arith, same, c.format.ensures.short)

pub returns : goal.returns
returns c =
    let same : length (size_text c.args.size c.args.scale) ≡ length c.format.result.now + (c.args.scale + 1) =
    point_len c.args.size c.args.scale c.power.result c.parts-whole.result.0 c.format.result.now c.format.ensures.text c.parts-whole.ensures.whole c.power.ensures.value (not_zero c.args.scale c.if-scale-eq0.false) in
    omega (arith, same, c.format.ensures.short, c.saturating_add.ensures, c.from.ensures)
