use Rattle.std.proofs.Common.{◌*◌, ◌≤◌}
use Rattle.std.specs.List.{All}
use Rattle.pages.specs.Entries.{IsEntry}
use Rattle.pages.specs.Written.{weights}
use Rattle.column_cost.specs.Columns.{integers}
use Rattle.column_cost.proofs.entries.entries.Given as goal

abbrev pub invariant-loop-i : goal.invariant-loop-i
invariant-loop-i l = All (IsEntry integers) l.entries.items × (weights integers.phys l.entries.items ≤ 12 * l.i)
