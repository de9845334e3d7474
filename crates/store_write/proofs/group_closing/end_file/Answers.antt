use Rattle.std.proofs.Common.{arith}
use Rattle.std.proofs.lemmas.List.{length-map}
use Rattle.shred_schema.specs.Views.{row_rec_of}
use Rattle.open_group.specs.OpenGroups.{records_in}
use Rattle.store_write.proofs.Ending.{there_closed, finishes_closed}
use Rattle.store_write.proofs.group_closing.end_file.Goals as goal

pub put_ending-requires-2 : goal.put_ending-requires-2
put_ending-requires-2 g c =
    record {
      there = there_closed c.args.name.now c.args.group.now c.close_group.new.group c.args.closed.now c.close_group.new.closed (g.S.Shelf.seen c.args.shelf.now) (g.S.Shelf.seen c.close_group.new.shelf)
          (records_in c.args.group.now) c.in-Ok.ensures.closes;
    }

pub returns : goal.returns
returns g c =
    finishes_closed c.args.name.now c.args.group.now c.close_group.new.group c.args.closed.now c.close_group.new.closed (g.S.Shelf.seen c.args.shelf.now) (g.S.Shelf.seen c.close_group.new.shelf)
    (g.S.Shelf.seen c.put_ending-2.new.shelf) (records_in c.args.group.now) c.put_ending-2.result
    (omega (arith, c.if-len-eq0.false, c.len.ensures.len, length-map c.args.group.now.rows row_rec_of)) c.in-Ok.ensures.closes c.put_ending-2.ensures
