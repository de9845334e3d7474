use Rattle.std.proofs.Common.{◌∙◌, sym, arith}
use Rattle.variant_meta.proofs.Offsets.{turn_falls, turn_on, turn_ends}
use Rattle.variant_meta.proofs.layout.Layout.some_falls.Goals as goal

pub returns-then-next-before : goal.returns-then-next-before
returns-then-next-before c =
    let bytes = c.args.self.now.bytes.now in
    sym (turn_falls bytes c.loop-i.i c.args.self.now.count (omega (arith, c.loop-i-test.true)) (omega (arith, c.if-next-before.true, c.offset-next.ensures.value, c.loop-i.invariant.before)))
    ∙ c.loop-i.invariant.rest

pub loop-i-preserved : goal.loop-i-preserved
loop-i-preserved c =
    let bytes = c.args.self.now.bytes.now in
    record {
      before = c.offset-next.ensures.value;
      rest = sym (turn_on bytes c.loop-i.i c.args.self.now.count (omega (arith, c.loop-i-test.true)) (omega (arith, c.if-next-before.false, c.offset-next.ensures.value, c.loop-i.invariant.before)))
          ∙ c.loop-i.invariant.rest;
    }

pub returns : goal.returns
returns c =
    let bytes = c.args.self.now.bytes.now in
    sym (turn_ends bytes c.loop-i.i c.args.self.now.count (omega (arith, c.loop-i-test.false)))
    ∙ c.loop-i.invariant.rest
