use Rattle.exact_num.proofs.TwosComplement.{integer_back}
use Rattle.exact_num.proofs.unscaled.integers_read_back.Goals as goal

pub returns : goal.returns
returns c = λ width z rest least fits. integer_back width z rest least fits
