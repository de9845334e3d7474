use Rattle.std.proofs.Common.{◌∙◌, sym}
use Rattle.variant_meta.specs.MetaRefs.{names_of}
use Rattle.variant_read.proofs.Walk.{judged_array}
use Rattle.variant_read.proofs.ids.judge_ids.Goals as goal

pub returns-then-not-layout : goal.returns-then-not-layout
returns-then-not-layout c =
    judged_array (names_of c.args.meta.now) c.args.layout.bytes.now c.args.layout.len c.size.result (sym c.args.layout.object_is ∙ c.if-not-layout.true) c.args.layout.len_is c.size.ensures
