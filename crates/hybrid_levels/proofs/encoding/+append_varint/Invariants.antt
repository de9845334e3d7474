use Rattle.hybrid_levels.proofs.encoding.+append_varint.Given as goal

abbrev pub decreases-append_varint : goal.decreases-append_varint
decreases-append_varint l = l.most
