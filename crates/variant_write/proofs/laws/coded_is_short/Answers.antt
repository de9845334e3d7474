use Rattle.variant_write.proofs.SizeLaw.{coded_most}
use Rattle.variant_write.proofs.laws.coded_is_short.Goals as goal

pub returns : goal.returns
returns c = coded_most
