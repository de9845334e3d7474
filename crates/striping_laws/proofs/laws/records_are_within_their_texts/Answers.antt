use Rattle.striping_laws.proofs.TextSizes.{shredded_within, row_within}
use Rattle.striping_laws.proofs.laws.records_are_within_their_texts.Goals as goal

pub returns-clause-record_within : goal.returns-clause-record_within
returns-clause-record_within c = λ names widths n tree wide. shredded_within names widths n tree wide

pub returns-clause-row_within : goal.returns-clause-row_within
returns-clause-row_within c = λ widths n row wide. row_within widths n row wide
