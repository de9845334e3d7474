use Rattle.std.proofs.Common.{◌≤◌, ◌-◌, length}
use Rattle.chunks.proofs.PagesInTurn.{Ahead}
use Rattle.chunks.proofs.page_walk.next_page.Given as goal

abbrev pub invariant-loop-at : goal.invariant-loop-at
invariant-loop-at l = record {
  ahead : Ahead l.leaf l.left l.bytes l.from l.at;
  before : l.from ≤ l.at;
  inside : l.at ≤ length l.bytes;
}

abbrev pub decreases-loop-at : goal.decreases-loop-at
decreases-loop-at l = length l.bytes - l.at
