use Rattle.shred_schema.specs.Views.{group_of, row_rec_of}
use Rattle.level_striping.proofs.Counted.{row_counted}
use Rattle.level_striping.proofs.counting.entries_of_row.Goals as goal

pub returns : goal.returns
returns c = rw (row_counted c.args.column.now.optional (group_of c.args.column.now.node) 0 (row_rec_of c.args.row.now)) c.row_total.ensures
