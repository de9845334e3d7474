use Rattle.std.proofs.Common.{sym, arith}
use Rattle.variant_meta.specs.MetaRefs.{names_of}
use Rattle.variant_read.specs.Meaning.{value_within}
use Rattle.variant_read.proofs.Walk.{item_failed}
use Rattle.variant_read.proofs.judging.+judging.Goals as goal

pub items-returns-in-Err : goal.items-returns-in-Err
items-returns-in-Err t c =
    let names = names_of c.args.meta.now in
    let bytes = c.args.layout.bytes.now in
    sym (item_failed (value_within names c.args.room) names bytes c.loop-k.k c.loop-k.used c.in-Err.rule _ c.loop-k.invariant.rest (omega (arith, c.loop-k-test.true, c.requires.most)) (c.requires.allowed c.loop-k.k (omega (arith, c.loop-k-test.true)))
    (rw (← c.region-region.ensures.value, ← c.offset.ensures.value) (sym c.in-Err.ensures.value)))
