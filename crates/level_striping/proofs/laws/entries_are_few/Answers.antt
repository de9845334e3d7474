use Rattle.level_striping.proofs.EntrySizes.{few_entries, few_row, few_rows}
use Rattle.level_striping.proofs.laws.entries_are_few.Goals as goal

pub returns-clause-record_entries : goal.returns-clause-record_entries
returns-clause-record_entries c = λ n size k r m d x j w. few_entries n size k r m d x j w

pub returns-clause-row_entries : goal.returns-clause-row_entries
returns-clause-row_entries c = λ o n size r row j w. few_row o n size r row j w

pub returns-clause-stripes : goal.returns-clause-stripes
returns-clause-stripes c = λ o n total rows j w. few_rows o n total rows j w
