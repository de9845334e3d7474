use Rattle.std.proofs.Common.{◌+◌, ◌-◌, refl, arith}
use Rattle.json_strings.proofs.Blocks.{blocks_plain}
use Rattle.json_strings.proofs.runs.past_blocks.Goals as goal

pub loop-at-preserved : goal.loop-at-preserved
loop-at-preserved c =
    let at = c.loop-at.at in
    record {
      within = omega arith;
      further = omega arith;
      plain = blocks_plain c.args.text.now c.args.from at 16 (at + 16 - at) (omega arith) (omega arith) c.loop-at.invariant.plain (c.if-is_plain_block.ensures refl);
    }
