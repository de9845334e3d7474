use Rattle.std.proofs.Common.{◌≡◌, ◌≤◌, ◌+◌, length, drop}
use Rattle.pages.specs.ReadInTurn.{before}
use Rattle.pages.specs.Shown.{shown}
use Rattle.pages.specs.Waiting.{left}
use Rattle.pages.proofs.joining.piece_in_turn.Given as goal

-- the entries that were made, then those that are left
abbrev pub invariant-loop-i : goal.invariant-loop-i
invariant-loop-i l = record {
  whole : before l.entries.items (left l.leaf (drop l.i (shown l.reps)) (drop l.i (shown l.defs)) (drop l.at l.bytes)) ≡ left l.leaf (drop l.from (shown l.reps)) (drop l.from (shown l.defs)) l.bytes;
  count : length l.entries.items + l.from ≡ l.i;
  inside : l.at ≤ length l.bytes;
}
