use Rattle.std.proofs.Common.{◌≡◌, length, take}
use Rattle.pages.proofs.levels.narrowed.Given as goal

-- how many are stored
abbrev pub invariant-loop-i : goal.invariant-loop-i
invariant-loop-i l = record {
  size : length l.narrow.items ≡ length l.levels;
  done : take l.i l.narrow.items ≡ take l.i l.levels;
}
