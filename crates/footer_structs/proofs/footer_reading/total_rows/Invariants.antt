use Rattle.std.proofs.Common.{◌≡◌, ◌+◌, ◌*◌, ◌^◌, ◌≤◌, drop}
use Rattle.footer_structs.specs.ReadFooters.{total_rows}
use Rattle.footer_structs.proofs.footer_reading.total_rows.Given as goal

abbrev pub invariant-loop-group : goal.invariant-loop-group
invariant-loop-group l = record {
  rows : l.total + total_rows (drop l.group-index l.groups) ≡ total_rows l.groups;
  small : l.total ≤ l.group-index * 2 ^ 63;
}
