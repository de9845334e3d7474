use Rattle.std.proofs.Common.{◌+◌, ◌-◌, ◌<◌, ◌^◌, length}
use Rattle.file_columns.specs.Columns.{children, named}
use Rattle.file_columns.specs.Forests.{front, forest}
use Rattle.file_columns.proofs.Passing.{IsSought}
use Rattle.file_columns.proofs.children.find_child.Given as goal

abbrev pub invariant-loop-turn : goal.invariant-loop-turn
invariant-loop-turn l = record {
  sought : IsSought l.name (named l.name (children 0 (front l.count (forest l.fn.ahead)))) l.at (l.count - l.turn) l.rest;
  few : l.at + length l.rest < 2 ^ 64;
}
