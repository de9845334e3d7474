use Rattle.hybrid_levels.proofs.ReadBack.{numbers_back}
use Rattle.hybrid_levels.proofs.laws.written_numbers_read_back.Goals as goal

pub returns : goal.returns
returns c = λ width ns more fits few. numbers_back width ns more fits few
