use Rattle.std.proofs.Common.{◌+◌, ◌<◌, subst, sym, ap, length, Bool, true}
use Rattle.level_striping.specs.Counts.{leaf_sum}
use Rattle.level_striping.specs.Entries.{row_entries}
use Rattle.shred_schema.specs.Groups.{width}
use Rattle.shred_schema.specs.Recs.{RowRec}
use Rattle.shred_schema.specs.Shapes.{RowIsOf}
use Rattle.shred_schema.specs.Views.{group_of, row_rec_of}
use Rattle.schema_parsing.specs.Canonical.{schema_text}
use Rattle.schema_parsing.proofs.WrittenNodes.{schema_written}
use Rattle.open_group.specs.OpenGroups.{Open, row_of}
use Rattle.open_group.specs.Filling.{row_count, counted_entries, texts_limit}
use Rattle.open_group.proofs.Gathers.{well_formed, row_is_of, after_push}
use Rattle.open_group.proofs.gathering.OpenGroup.add.Goals as goal

pub record_of-requires-clause-node : goal.record_of-requires-clause-node
record_of-requires-clause-node c =
    let n = group_of c.self.inside.column.node in
    schema_written (schema_text n) n c.self.invariant.is_column.schema

pub push-requires-clause-column : goal.push-requires-clause-column
push-requires-clause-column c =
    let n = group_of c.self.inside.column.node in
    well_formed (schema_text n) n c.self.invariant.is_column.schema

pub push-requires-clause-of : goal.push-requires-clause-of
push-requires-clause-of c =
    let n = group_of c.self.inside.column.node in
    subst (λ (o : Bool). RowIsOf o n (row_rec_of c.in_ok-made.made)) (sym c.self.invariant.is_column.optional)
    (subst (λ (r : RowRec). RowIsOf true n r) (sym c.in_ok-made.ensures)
    (row_is_of (schema_text n) n c.self.inside.settings.widths (row_of c.args.row) c.self.invariant.is_column.schema c.self.invariant.chosen.widths c.requires.row))

pub invariant_of-self-2 : goal.invariant_of-self-2
unfolding row_count
invariant_of-self-2 c =
    let n = group_of c.self.inside.column.node in
    let old = c.self.invariant in
    record {
      is_column = old.is_column;
      are_leaves = old.are_leaves;
      chosen = old.chosen;
      gathered = after_push (schema_text n) n c.self.inside.settings.widths (row_of c.args.row) c.in_ok-made.made c.row_text_len.result
          (counted_entries c.self.inside.column (row_rec_of c.in_ok-made.made)) c.self.inside.gathered c.push.new.self c.push.result old.is_column.schema old.chosen.widths c.requires.row (subst (λ (g : Open). g.texts < texts_limit) (sym c.self.view_is) c.requires.room) old.gathered
          c.in_ok-made.ensures c.row_text_len.ensures (ap (λ (o : Bool). leaf_sum 0 (1 + width n) (λ j. length (row_entries o n 0 (row_rec_of c.in_ok-made.made) j))) old.is_column.optional) c.push.ensures.rows c.push.ensures.texts c.push.ensures.entries c.push.ensures.err;
    }
