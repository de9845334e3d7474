use Rattle.std.proofs.Common.{arith}
use Rattle.path_query.specs.Rows.{row_of}
use Rattle.path_query.proofs.Printed.{members_turn, starts_again}
use Rattle.path_query.proofs.printing.put_members.Goals as goal

pub loop-path-preserved : goal.loop-path-preserved
loop-path-preserved c = record {
  text = members_turn c.loop-path.into.items c.put_member.new.into.items _ c.args.paths.now (row_of c.args.row) c.loop-path.path-index c.path-item.result (omega arith) c.path-item.is c.loop-path.invariant.text (c.in_ok-put_member.ensures).ok;
  grows = starts_again c.put_member.new.into.items c.loop-path.into.items c.args.into.now.items (c.in_ok-put_member.ensures).grows c.loop-path.invariant.grows;
}
