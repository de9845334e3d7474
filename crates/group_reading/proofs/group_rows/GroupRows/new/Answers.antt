use Rattle.std.proofs.Common.{[], ◌++◌, get_or}
use Rattle.shred_schema.specs.Ranges.{reads}
use Rattle.shred_schema.specs.Views.{group_of}
use Rattle.group_reading.specs.GroupRows.{rows_seen}
use Rattle.group_reading.specs.RowsAhead.{rows_ahead}
use Rattle.group_reading.proofs.group_rows.GroupRows.new.Goals as goal

pub returns-clause-rows : goal.returns-clause-rows
unfolding rows_ahead
returns-clause-rows c = λ i. rows_seen (reads c.args.mask.now) c.args.column.now.optional (group_of c.args.column.now.node) c.args.rows 0 (λ j. c.in_ok-assembler.ensures.empty j i ++ get_or (c.into_vec.ensures i) j [])
