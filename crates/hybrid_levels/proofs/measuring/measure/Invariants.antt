use Rattle.std.proofs.Common.{◌≤◌, ◌-◌, ℕ, List, length}
use Rattle.hybrid_levels.proofs.Ahead.{Ahead}
use Rattle.hybrid_levels.proofs.measuring.measure.Given as goal

abbrev pub invariant-loop-found : goal.invariant-loop-found
invariant-loop-found l = record {
  numbers : List ℕ;
  ahead : Ahead l.width l.count l.bytes l.at l.found numbers;
  inside : l.at ≤ length l.bytes;
  within : l.found ≤ l.count;
}

abbrev pub decreases-loop-found : goal.decreases-loop-found
decreases-loop-found l = length l.bytes - l.at
