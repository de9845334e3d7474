use Rattle.std.proofs.Common.{◌+◌, ◌-◌, ◌<◌, ◌^◌, map, length}
use Rattle.file_columns.specs.Columns.{children}
use Rattle.file_columns.specs.Forests.{front, forest}
use Rattle.file_columns.specs.Views.{seen}
use Rattle.file_columns.proofs.Passing.{IsListed}
use Rattle.file_columns.proofs.children.children.Given as goal

abbrev pub invariant-loop-turn : goal.invariant-loop-turn
invariant-loop-turn l = record {
  listed : IsListed (children l.place (front l.count (forest l.fn.ahead))) (map seen l.list.items) l.at (l.count - l.turn) l.rest;
  few : l.at + length l.rest < 2 ^ 64;
}
