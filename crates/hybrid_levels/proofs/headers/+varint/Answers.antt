use Rattle.std.proofs.Common.{ap, ◌∙◌, arith}
use Rattle.hybrid_levels.specs.Hybrid.{varint}
use Rattle.hybrid_levels.proofs.Varints.{first_small, grown, one_byte, room, rule_after}
use Rattle.hybrid_levels.proofs.headers.+varint.Goals as goal

pub returns-then-byte-lt128-clause-fits : goal.returns-then-byte-lt128-clause-fits
returns-then-byte-lt128-clause-fits t c =
    one_byte c.args.most c.from.result (omega (arith, c.if-most-eq0.false)) (omega (arith, c.from.ensures, c.if-byte-lt128.true))

pub overflow_mul-result : goal.overflow_mul-result
overflow_mul-result t c =
    let high = room c.args.most c.in-Ok.high c.requires c.in-Ok.ensures.fits in
    omega (arith, high)

pub overflow_add-result : goal.overflow_add-result
overflow_add-result t c =
    let high = room c.args.most c.in-Ok.high c.requires c.in-Ok.ensures.fits in
    let byte = first_small c.args.bytes.now c.in-Some.rest.now c.in-Some.byte.now c.in-Some.ensures.cases.0 (λ i. omega (arith, c.type_inv.bytes i)) in
    omega (arith, high, byte, c.from-in-Ok.ensures)

pub returns-in-Ok-clause-fits : goal.returns-in-Ok-clause-fits
returns-in-Ok-clause-fits t c =
    let byte = first_small c.args.bytes.now c.in-Some.rest.now c.in-Some.byte.now c.in-Some.ensures.cases.0 (λ i. omega (arith, c.type_inv.bytes i)) in
    grown c.args.most c.from-in-Ok.result c.in-Ok.high (omega (arith, c.if-most-eq0.false)) (omega (arith, byte, c.from-in-Ok.ensures)) c.in-Ok.ensures.fits

pub returns-in-Err-clause-exact : goal.returns-in-Err-clause-exact
returns-in-Err-clause-exact t c =
    ap (varint c.args.most) c.in-Some.ensures.cases.0
    ∙ rule_after c.args.most c.in-Some.byte.now c.in-Some.rest.now c.in-Err.rule (omega (arith, c.if-most-eq0.false)) c.if-byte-lt128.false c.in-Err.ensures.exact
