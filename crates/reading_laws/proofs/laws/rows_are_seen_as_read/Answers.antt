use Rattle.reading_laws.proofs.RowsSeen.{seen_as_read}
use Rattle.reading_laws.proofs.laws.rows_are_seen_as_read.Goals as goal

pub returns : goal.returns
returns c = seen_as_read
