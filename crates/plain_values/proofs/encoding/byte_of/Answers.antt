use Rattle.std.proofs.Common.{arith}
use Rattle.plain_values.proofs.Bits.{byte_room}
use Rattle.plain_values.proofs.encoding.byte_of.Goals as goal

pub overflow_mul-byte : goal.overflow_mul-byte
overflow_mul-byte c =
    let room = byte_room c.loop-i.i c.args.cells.now (omega (arith, c.loop-i-test.true)) c.loop-i.invariant.within c.requires in
    omega (arith, room, c.loop-i.invariant.bits)

pub overflow_add-byte : goal.overflow_add-byte
overflow_add-byte c =
    let room = byte_room c.loop-i.i c.args.cells.now (omega (arith, c.loop-i-test.true)) c.loop-i.invariant.within c.requires in
    omega (arith, room, c.loop-i.invariant.bits, c.bit.ensures.fits)
