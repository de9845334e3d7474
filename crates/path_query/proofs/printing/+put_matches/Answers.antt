use Rattle.std.proofs.Common.{arith}
use Rattle.path_query.proofs.Printed.{matches_turn, starts_again}
use Rattle.path_query.proofs.printing.+put_matches.Goals as goal

pub loop-part-preserved : goal.loop-part-preserved
loop-part-preserved t c = record {
  text = matches_turn c.loop-part.into.items c.put_matches.new.into.items _ c.in-Some.others.now c.parts_at-part-items.result.now c.loop-part.part-index c.part-item.result (omega arith) c.part-item.is c.loop-part.invariant.text (c.in_ok-put_matches-in-Some.ensures).ok;
  grows = starts_again c.put_matches.new.into.items c.loop-part.into.items c.args.into.now.items (c.in_ok-put_matches-in-Some.ensures).grows c.loop-part.invariant.grows;
}
