use Rattle.std.proofs.Common.{◌≡◌, ◌≤◌, ◌+◌, drop}
use Rattle.pages.specs.Bodies.{value_count}
use Rattle.pages.proofs.levels.equal.Given as goal

-- those that were counted, and those that are left
abbrev pub invariant-loop-level : goal.invariant-loop-level
invariant-loop-level l = record {
  counted : l.count + value_count l.wanted (drop l.level-index l.levels) ≡ value_count l.wanted l.levels;
  most : l.count ≤ l.level-index;
}
