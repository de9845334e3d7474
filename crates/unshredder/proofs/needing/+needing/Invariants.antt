use Rattle.std.proofs.Common.{◌≡◌, ℕ, ◌+◌, ◌*◌, Bool, map, drop}
use Rattle.shred_schema.specs.Groups.{nesting, kind_nesting, groups_nesting, groups_from}
use Rattle.shred_schema.specs.Recs.{recs_from, EachRec}
use Rattle.shred_schema.specs.Shapes.{HasShape}
use Rattle.shred_schema.specs.Views.{group_of, kind_of, rec_of, named}
use Rattle.unshredder.specs.Readings.{IsReading, AreReadings}
use Rattle.unshredder.specs.Rows.{has_value, fields_have_value, any_rec}
use Rattle.unshredder.proofs.NextRead.{AreAhead}
use Rattle.unshredder.proofs.ValuesLeft.{AreLeft}
use Rattle.unshredder.proofs.needing.+needing.Given as goal

-- a node, its typed part, what is inside it, and back to a node

abbrev pub decreases-has_value : goal.decreases-has_value
decreases-has_value l = 4 * nesting (group_of l.node.now) + 1

abbrev pub decreases-part_has_value : goal.decreases-part_has_value
decreases-part_has_value l = 4 * kind_nesting (kind_of l.typed.now)

abbrev pub decreases-fields_have_value : goal.decreases-fields_have_value
decreases-fields_have_value l = 4 * groups_nesting (groups_from (map named l.fields.now)) + 3

abbrev pub decreases-any_has_value : goal.decreases-any_has_value
decreases-any_has_value l = 4 * nesting (group_of l.node.now) + 2

abbrev pub invariant-fields_have_value-loop-reading : goal.invariant-fields_have_value-loop-reading
invariant-fields_have_value-loop-reading l = (mask : ℕ → Bool) (leaf : ℕ) → AreReadings mask (groups_from (map named l.fields)) 0 leaf l.readings
    → AreAhead mask (AreLeft mask (groups_nesting (groups_from (map named l.fields))) (fields_have_value mask (groups_from (map named l.fields)) leaf (recs_from (map rec_of l.records)))) l.fields l.records (drop l.reading-index l.readings)

abbrev pub invariant-any_has_value-loop-rec : goal.invariant-any_has_value-loop-rec
invariant-any_has_value-loop-rec l = record {
  shape : EachRec (HasShape (group_of l.fn.node)) (recs_from (map rec_of (drop l.rec-index l.records)));
  same : (mask : ℕ → Bool) (leaf : ℕ) → IsReading mask (group_of l.fn.node) leaf l.fn.reading → any_rec (has_value mask (group_of l.fn.node) leaf) (recs_from (map rec_of (drop l.rec-index l.records))) ≡ any_rec (has_value mask (group_of l.fn.node) leaf) (recs_from (map rec_of l.records));
}
