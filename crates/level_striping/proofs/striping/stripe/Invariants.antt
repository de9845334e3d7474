use Rattle.std.proofs.Common.{map, drop}
use Rattle.std.specs.List.{AllByRecursion}
use Rattle.shred_schema.specs.Shapes.{RowIsOf}
use Rattle.shred_schema.specs.Views.{group_of, row_rec_of}
use Rattle.level_striping.specs.Entries.{stripes}
use Rattle.level_striping.proofs.Walks.{Walks}
use Rattle.level_striping.proofs.striping.stripe.Given as goal

abbrev pub invariant-loop-row : goal.invariant-loop-row
invariant-loop-row l =
    Walks l.initial.leaves.items l.leaves.items (stripes l.column.optional (group_of l.column.node) (map row_rec_of l.records)) (stripes l.column.optional (group_of l.column.node) (map row_rec_of (drop l.row-index l.records)))
    × AllByRecursion (RowIsOf l.column.optional (group_of l.column.node)) (map row_rec_of (drop l.row-index l.records))
