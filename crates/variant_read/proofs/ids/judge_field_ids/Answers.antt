use Rattle.std.proofs.Common.{sym, arith}
use Rattle.variant_meta.specs.MetaRefs.{names_of}
use Rattle.variant_read.proofs.Walk.{judged_broken, judged_whole}
use Rattle.variant_read.proofs.ids.judge_field_ids.Goals as goal

pub returns-in-Err : goal.returns-in-Err
returns-in-Err g c =
    judged_broken (names_of c.args.meta.now) c.args.layout.bytes.now c.loop-k.k c.in-Err.rule (omega (arith, c.loop-k-test.true, c.args.layout.len_is)) c.loop-k.invariant.allowed (sym c.in-Err.ensures.value)

pub returns : goal.returns
returns g c =
    judged_whole (names_of c.args.meta.now) c.args.layout.bytes.now c.args.layout.len c.size.result c.args.layout.len_is c.size.ensures (λ j h. c.loop-k.invariant.allowed j (omega (arith, h, c.loop-k-test.false)))
