use Rattle.shred_schema.specs.Views.{group_of}
use Rattle.group_lines.specs.Lines.{rows_left}
use Rattle.group_lines.proofs.RowsDone.{one_tree}
use Rattle.group_lines.proofs.row_trees.collect_rows.Goals as goal

pub loop-row-preserved : goal.loop-row-preserved
loop-row-preserved c =
    let gives = rw c.in-Ok-Some.field-0-is at c.in-Ok-Some.ensures in
    record {
      stands = gives.stands;
      ahead = one_tree
          (rows_left c.args.column.now.optional (group_of c.args.column.now.node) c.args.mask.now c.args.rows)
          (rows_left c.args.column.now.optional (group_of c.args.column.now.node) c.args.mask.now c.loop-row.rows)
          (rows_left c.args.column.now.optional (group_of c.args.column.now.node) c.args.mask.now c.next.new.self)
          c.loop-row.trees c.push.new.self c.in-Ok-Some.row c.loop-row.invariant.ahead gives.ahead c.in-Ok.ensures.ok;
    }
