use Rattle.exact_num.proofs.Readings.{read_exactly}
use Rattle.exact_num.proofs.laws.reading_is_exact.Goals as goal

pub returns : goal.returns
returns c = read_exactly
