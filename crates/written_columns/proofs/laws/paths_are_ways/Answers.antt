use Rattle.written_columns.proofs.Ways.{paths_are, paths_counted}
use Rattle.written_columns.proofs.laws.paths_are_ways.Goals as goal

pub returns-clause-ways : goal.returns-clause-ways
returns-clause-ways c = paths_are

pub returns-clause-count : goal.returns-clause-count
returns-clause-count c = paths_counted
