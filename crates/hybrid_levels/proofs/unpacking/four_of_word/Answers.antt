use Rattle.std.proofs.Common.{sym}
use Rattle.hybrid_levels.proofs.Unpacked.{two_and_two}
use Rattle.hybrid_levels.proofs.unpacking.four_of_word.Goals as goal

pub returns : goal.returns
returns c =
    let split = two_and_two c.args.width c.args.word c.requires in
    rw (c.lowest.ensures, c.lowest-2.ensures, c.lowest-3.ensures, c.lowest-4.ensures) (sym split)
