use Rattle.std.proofs.Common.{◌-◌, length}
use Rattle.vs_bytes.specs.Outcome.{Grows}
use Rattle.hybrid_levels.proofs.Pieces.{Left}
use Rattle.hybrid_levels.proofs.encoding.append_pieces.Given as goal

abbrev pub invariant-loop-at : goal.invariant-loop-at
invariant-loop-at l = record {
  left : Left l.width l.numbers l.at l.fn.into.items l.into.items;
  grows : Grows l.fn.into.items l.into.items;
}

abbrev pub decreases-loop-at : goal.decreases-loop-at
decreases-loop-at l = length l.numbers - l.at
