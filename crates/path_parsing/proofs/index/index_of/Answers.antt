use Rattle.std.proofs.Common.{arith}
use Rattle.path_parsing.proofs.Indexes.{digit_fits}
use Rattle.path_parsing.proofs.index.index_of.Goals as goal

pub overflow_mul-index : goal.overflow_mul-index
overflow_mul-index c =
    let small = digit_fits c.loop-byte.index c.loop-byte.byte-index c.loop-byte.invariant.size (omega arith) in omega arith

pub overflow_add-index : goal.overflow_add-index
overflow_add-index c =
    let small = digit_fits c.loop-byte.index c.loop-byte.byte-index c.loop-byte.invariant.size (omega arith) in omega arith
