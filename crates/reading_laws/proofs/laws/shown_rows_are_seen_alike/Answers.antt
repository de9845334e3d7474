use Rattle.reading_laws.proofs.SeenAgain.{row_seen_again}
use Rattle.reading_laws.proofs.laws.shown_rows_are_seen_alike.Goals as goal

pub returns : goal.returns
returns c = row_seen_again
