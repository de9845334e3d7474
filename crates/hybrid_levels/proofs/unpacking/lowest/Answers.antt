use Rattle.hybrid_levels.proofs.Unpacked.{mask_is}
use Rattle.hybrid_levels.proofs.unpacking.lowest.Goals as goal

pub returns : goal.returns
returns c = mask_is c.args.word c.args.width c.requires
