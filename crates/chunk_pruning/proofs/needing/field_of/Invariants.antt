use Rattle.std.proofs.Common.{◌≡◌, ◌+◌, map, drop}
use Rattle.shred_schema.specs.Groups.{groups_from, groups_width}
use Rattle.shred_schema.specs.Views.{named}
use Rattle.chunk_pruning.specs.Fields.{field_at}
use Rattle.chunk_pruning.proofs.needing.field_of.Given as goal

abbrev pub invariant-loop-k : goal.invariant-loop-k
invariant-loop-k l = record {
  same : field_at l.name (groups_from (map named (drop l.k l.fields))) l.first ≡ field_at l.name (groups_from (map named l.fields)) l.leaf;
  wide : l.first + groups_width (groups_from (map named (drop l.k l.fields))) ≡ l.leaf + groups_width (groups_from (map named l.fields));
}
