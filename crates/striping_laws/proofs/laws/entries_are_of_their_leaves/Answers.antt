use Rattle.striping_laws.proofs.EntryWeights.{low_levels}
use Rattle.striping_laws.proofs.LeafEntries.{leaf_entries}
use Rattle.striping_laws.proofs.RowStarts.{first_begins, rows_begin}
use Rattle.striping_laws.proofs.laws.entries_are_of_their_leaves.Goals as goal

pub returns-clause-entries : goal.returns-clause-entries
returns-clause-entries c = λ optional n total rows j other all inside. leaf_entries optional n rows j other all.of all.fit inside

pub returns-clause-first : goal.returns-clause-first
returns-clause-first c = λ optional n rows j of some inside. first_begins optional n rows j of some inside

pub returns-clause-rows : goal.returns-clause-rows
returns-clause-rows c = λ optional n rows j of inside. rows_begin optional n rows j of inside

pub returns-clause-levels : goal.returns-clause-levels
returns-clause-levels c = λ optional n j other well inside. low_levels optional n j other well inside
