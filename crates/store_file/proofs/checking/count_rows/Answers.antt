use Rattle.std.proofs.Common.{arith}
use Rattle.std.specs.Option.{option_map}
use Rattle.json_tree.specs.View.{view}
use Rattle.shred_schema.specs.Views.{group_of}
use Rattle.group_lines.specs.Lines.{rows_left}
use Rattle.store_file.proofs.GroupsRead.{counted_more}
use Rattle.store_file.proofs.checking.count_rows.Goals as goal

pub loop-row-preserved-in-Ok-Some : goal.loop-row-preserved-in-Ok-Some
loop-row-preserved-in-Ok-Some c =
    let gives = rw c.in-Ok-Some.field-0-is at c.in-Ok-Some.ensures in
    record {
      stands = gives.stands;
      counted = counted_more
          (rows_left c.args.column.now.optional (group_of c.args.column.now.node) c.args.mask.now c.args.rows)
          (rows_left c.args.column.now.optional (group_of c.args.column.now.node) c.args.mask.now c.loop-row.rows)
          (rows_left c.args.column.now.optional (group_of c.args.column.now.node) c.args.mask.now c.next.new.self)
          c.loop-row.count (option_map view c.in-Ok-Some._row) c.loop-row.invariant.counted gives.ahead;
      fits = omega (arith, gives.fewer, c.loop-row.invariant.fits);
    }

pub loop-row-preserved-in-Ok-Some-2 : goal.loop-row-preserved-in-Ok-Some-2
loop-row-preserved-in-Ok-Some-2 c =
    let gives = rw c.in-Ok-Some.field-0-is at c.in-Ok-Some.ensures in
    record {
      stands = gives.stands;
      counted = counted_more
          (rows_left c.args.column.now.optional (group_of c.args.column.now.node) c.args.mask.now c.args.rows)
          (rows_left c.args.column.now.optional (group_of c.args.column.now.node) c.args.mask.now c.loop-row.rows)
          (rows_left c.args.column.now.optional (group_of c.args.column.now.node) c.args.mask.now c.next.new.self)
          c.loop-row.count (option_map view c.in-Ok-Some._row) c.loop-row.invariant.counted gives.ahead;
      fits = omega (arith, gives.fewer, c.loop-row.invariant.fits);
    }

pub loop-row-preserved-in-Ok-Some-3 : goal.loop-row-preserved-in-Ok-Some-3
loop-row-preserved-in-Ok-Some-3 c =
    let gives = rw c.in-Ok-Some.field-0-is at c.in-Ok-Some.ensures in
    record {
      stands = gives.stands;
      counted = counted_more
          (rows_left c.args.column.now.optional (group_of c.args.column.now.node) c.args.mask.now c.args.rows)
          (rows_left c.args.column.now.optional (group_of c.args.column.now.node) c.args.mask.now c.loop-row.rows)
          (rows_left c.args.column.now.optional (group_of c.args.column.now.node) c.args.mask.now c.next.new.self)
          c.loop-row.count (option_map view c.in-Ok-Some._row) c.loop-row.invariant.counted gives.ahead;
      fits = omega (arith, gives.fewer, c.loop-row.invariant.fits);
    }

pub loop-row-preserved-in-Ok-Some-4 : goal.loop-row-preserved-in-Ok-Some-4
loop-row-preserved-in-Ok-Some-4 c =
    let gives = rw c.in-Ok-Some.field-0-is at c.in-Ok-Some.ensures in
    record {
      stands = gives.stands;
      counted = counted_more
          (rows_left c.args.column.now.optional (group_of c.args.column.now.node) c.args.mask.now c.args.rows)
          (rows_left c.args.column.now.optional (group_of c.args.column.now.node) c.args.mask.now c.loop-row.rows)
          (rows_left c.args.column.now.optional (group_of c.args.column.now.node) c.args.mask.now c.next.new.self)
          c.loop-row.count (option_map view c.in-Ok-Some._row) c.loop-row.invariant.counted gives.ahead;
      fits = omega (arith, gives.fewer, c.loop-row.invariant.fits);
    }

pub loop-row-preserved-in-Ok-Some-5 : goal.loop-row-preserved-in-Ok-Some-5
loop-row-preserved-in-Ok-Some-5 c =
    let gives = rw c.in-Ok-Some.field-0-is at c.in-Ok-Some.ensures in
    record {
      stands = gives.stands;
      counted = counted_more
          (rows_left c.args.column.now.optional (group_of c.args.column.now.node) c.args.mask.now c.args.rows)
          (rows_left c.args.column.now.optional (group_of c.args.column.now.node) c.args.mask.now c.loop-row.rows)
          (rows_left c.args.column.now.optional (group_of c.args.column.now.node) c.args.mask.now c.next.new.self)
          c.loop-row.count (option_map view c.in-Ok-Some._row) c.loop-row.invariant.counted gives.ahead;
      fits = omega (arith, gives.fewer, c.loop-row.invariant.fits);
    }

pub loop-row-preserved : goal.loop-row-preserved
loop-row-preserved c =
    let gives = rw c.in-Ok-Some.field-0-is at c.in-Ok-Some.ensures in
    record {
      stands = gives.stands;
      counted = counted_more
          (rows_left c.args.column.now.optional (group_of c.args.column.now.node) c.args.mask.now c.args.rows)
          (rows_left c.args.column.now.optional (group_of c.args.column.now.node) c.args.mask.now c.loop-row.rows)
          (rows_left c.args.column.now.optional (group_of c.args.column.now.node) c.args.mask.now c.next.new.self)
          c.loop-row.count (option_map view c.in-Ok-Some._row) c.loop-row.invariant.counted gives.ahead;
      fits = omega (arith, gives.fewer, c.loop-row.invariant.fits);
    }
