use Rattle.hybrid_levels.proofs.headers.+varint.Given as goal

abbrev pub decreases-varint : goal.decreases-varint
decreases-varint l = l.most
