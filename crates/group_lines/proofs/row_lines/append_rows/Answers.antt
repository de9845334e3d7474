use Rattle.std.specs.Option.{option_map}
use Rattle.json_tree.specs.View.{view}
use Rattle.query_tree.specs.Asked.{query_of}
use Rattle.shred_schema.specs.Views.{group_of}
use Rattle.group_lines.specs.Lines.{rows_left}
use Rattle.group_lines.proofs.RowsDone.{printed_more}
use Rattle.group_lines.proofs.row_lines.append_rows.Goals as goal

pub loop-row-preserved : goal.loop-row-preserved
loop-row-preserved c =
    let gives = rw c.in-Ok-Some.field-0-is at c.in-Ok-Some.ensures in
    record {
      stands = gives.stands;
      printed = printed_more (query_of c.args.query.now)
          (rows_left c.args.column.now.optional (group_of c.args.column.now.node) c.args.mask.now c.args.rows.now)
          (rows_left c.args.column.now.optional (group_of c.args.column.now.node) c.args.mask.now c.loop-row.rows)
          (rows_left c.args.column.now.optional (group_of c.args.column.now.node) c.args.mask.now c.next.new.self)
          c.args.into.now.items c.loop-row.into.items c.print_taken.new.into.items (option_map view c.in-Ok-Some.row) c.loop-row.invariant.printed gives.ahead c.in-Ok.ensures.ok;
    }
