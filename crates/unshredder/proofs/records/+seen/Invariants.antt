use Rattle.std.proofs.Common.{◌≡◌, ℕ, ◌+◌, ◌*◌, Bool, map, drop}
use Rattle.json_tree.specs.View.{view, seen as pair_seen}
use Rattle.variant_meta.specs.MetaRefs.{names_of}
use Rattle.shred_schema.specs.Groups.{nesting, kind_nesting, groups_nesting, groups_from}
use Rattle.shred_schema.specs.Recs.{recs_from, EachRec}
use Rattle.shred_schema.specs.Shapes.{HasShape}
use Rattle.shred_schema.specs.Views.{group_of, kind_of, rec_of, named}
use Rattle.unshredder.specs.Readings.{IsReading, AreReadings}
use Rattle.unshredder.specs.Seen.{seen, fields_seen, items_seen, is_tested, ahead}
use Rattle.unshredder.proofs.Ahead.{IsLeft, elements_ahead}
use Rattle.unshredder.proofs.NextRead.{AreAhead}
use Rattle.unshredder.proofs.records.+seen.Given as goal

-- a node, its typed part, what is inside it, and back to a node

abbrev pub decreases-seen : goal.decreases-seen
decreases-seen l = 10 * nesting (group_of l.node.now) + 3

abbrev pub decreases-typed_seen : goal.decreases-typed_seen
decreases-typed_seen l = 10 * kind_nesting (kind_of l.typed.now) + 1

abbrev pub decreases-with_fields : goal.decreases-with_fields
decreases-with_fields l = 10 * groups_nesting (groups_from (map named l.fields.now)) + 8

abbrev pub decreases-fields_seen : goal.decreases-fields_seen
decreases-fields_seen l = 10 * groups_nesting (groups_from (map named l.fields.now)) + 7

abbrev pub decreases-put_field : goal.decreases-put_field
decreases-put_field l = 10 * nesting (group_of l.field.now.1) + 5

abbrev pub decreases-put_seen : goal.decreases-put_seen
decreases-put_seen l = 10 * nesting (group_of l.field.now.1) + 4

abbrev pub decreases-with_items : goal.decreases-with_items
decreases-with_items l = 10 * nesting (group_of l.node.now) + 8

abbrev pub decreases-items_seen : goal.decreases-items_seen
decreases-items_seen l = 10 * nesting (group_of l.node.now) + 7

abbrev pub invariant-fields_seen-loop-reading : goal.invariant-fields_seen-loop-reading
invariant-fields_seen-loop-reading l = (mask : ℕ → Bool) (leaf : ℕ) → AreReadings mask (groups_from (map named l.fields)) 0 leaf l.readings
    → AreAhead mask (IsLeft mask (names_of l.fn.meta) l.above (map pair_seen l.left.items) (groups_nesting (groups_from (map named l.fields))) (ahead (map pair_seen l.fn.left.items) (fields_seen mask (names_of l.fn.meta) (groups_from (map named l.fields)) leaf l.above (recs_from (map rec_of l.records))))) l.fields l.records (drop l.reading-index l.readings)

abbrev pub invariant-items_seen-loop-rec : goal.invariant-items_seen-loop-rec
invariant-items_seen-loop-rec l = record {
  shape : EachRec (HasShape (group_of l.fn.node)) (recs_from (map rec_of (drop l.rec-index l.records)));
  ahead : (mask : ℕ → Bool) (leaf : ℕ) → IsReading mask (group_of l.fn.node) leaf l.fn.reading
      → elements_ahead (map view l.trees.items) (items_seen (is_tested mask leaf (group_of l.fn.node)) (seen mask (names_of l.fn.meta) (group_of l.fn.node) leaf l.above) (recs_from (map rec_of (drop l.rec-index l.records)))) ≡ items_seen (is_tested mask leaf (group_of l.fn.node)) (seen mask (names_of l.fn.meta) (group_of l.fn.node) leaf l.above) (recs_from (map rec_of l.records));
}
