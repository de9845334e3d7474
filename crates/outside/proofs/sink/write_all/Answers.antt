use Rattle.std.proofs.Common.{◌∙◌, ◌+◌, ◌≤◌, length, rules}
use Rattle.outside.proofs.Pieces.{appends_on}
use Rattle.outside.proofs.sink.write_all.Goals as goal

pub loop-done-preserved : goal.loop-done-preserved
loop-done-preserved g c =
    let taken = c.in-Ok.ensures.writes in
    let fits : c.loop-done.done + c.in-Ok.count ≤ length c.args.bytes.now = search rules in
    record {
      within = fits;
      written = appends_on _ _ _ c.args.bytes.now c.loop-done.done c.in-Ok.count fits c.loop-done.invariant.written taken.added;
      calm = taken.calm ∙ c.loop-done.invariant.calm;
    }
