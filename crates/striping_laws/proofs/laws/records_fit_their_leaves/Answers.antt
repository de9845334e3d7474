use Rattle.striping_laws.proofs.RecordsFit.{shredded_fits}
use Rattle.striping_laws.proofs.WrittenRows.{row_fits}
use Rattle.striping_laws.proofs.laws.records_fit_their_leaves.Goals as goal

pub returns-clause-record_fits : goal.returns-clause-record_fits
returns-clause-record_fits c = λ names widths n tree h wide valid short. shredded_fits names widths n tree h wide valid short

pub returns-clause-row_fits : goal.returns-clause-row_fits
returns-clause-row_fits c = λ widths n tree h wide valid short. row_fits widths n tree h wide valid short
