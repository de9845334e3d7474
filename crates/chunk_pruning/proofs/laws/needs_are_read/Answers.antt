use Rattle.std.proofs.Common.{refl}
use Rattle.chunk_pruning.proofs.Listed.{needed_are_read, needs_length}
use Rattle.chunk_pruning.proofs.laws.needs_are_read.Goals as goal

pub returns-clause-read : goal.returns-clause-read
returns-clause-read c = needed_are_read

pub returns-clause-len : goal.returns-clause-len
returns-clause-len c = needs_length

pub returns-clause-metadata : goal.returns-clause-metadata
returns-clause-metadata c = λ asked n. needed_are_read asked n 0 refl
