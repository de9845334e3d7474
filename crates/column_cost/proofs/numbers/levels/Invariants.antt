use Rattle.std.proofs.Common.{◌<◌, ◌≤◌, ◌≡◌, length}
use Rattle.std.specs.List.{All}
use Rattle.column_cost.proofs.numbers.levels.Given as goal

abbrev pub invariant-loop-i : goal.invariant-loop-i
invariant-loop-i l = All (λ level. level < 4) l.levels.items × (length l.levels.items ≡ l.i)
