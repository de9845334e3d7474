use Rattle.std.proofs.Common.{refl, ⊎_elim}
use Rattle.outside.specs.Devices.{Fails}
use Rattle.outside.specs.Memory.{source_device, sink_device}
use Rattle.shelf.specs.Memory.{mem_storage}
use Rattle.variant_store.specs.Commands.{prints}
use Rattle.variant_store.specs.World.{world_of}
use Rattle.variant_store.proofs.KnownBytes.{whole, read_all, quiet, stops}
use Rattle.variant_store.proofs.in_memory.vstore_in_memory.Goals as goal

pub returns-clause-prints : goal.returns-clause-prints
returns-clause-prints c = λ stream asks zero_is.
    (whole c.args.words.now stream (mem_storage c.args.shelf.now) (mem_storage c.vstore.new.shelf) c.args.input.now c.vstore.new.input c.args.out.now c.vstore.new.out asks (c.vstore.ensures.zero zero_is)).has_printed

pub returns-clause-read_whole : goal.returns-clause-read_whole
returns-clause-read_whole c = λ command asks reads zero_is. read_all c.args.words.now command (mem_storage c.args.shelf.now) (mem_storage c.vstore.new.shelf) c.args.input.now c.vstore.new.input c.args.out.now c.vstore.new.out asks reads (c.vstore.ensures.zero zero_is)

pub returns-clause-quiet : goal.returns-clause-quiet
returns-clause-quiet c = λ zero_is.
    quiet c.args.words.now (world_of (mem_storage c.args.shelf.now) (source_device c.args.input.now) (sink_device c.args.out.now)) (world_of (mem_storage c.vstore.new.shelf) (source_device c.vstore.new.input) (sink_device c.vstore.new.out)) c.args.err.now c.vstore.new.err c.vstore.result zero_is c.vstore.ensures.answer

pub returns-clause-refused : goal.returns-clause-refused
returns-clause-refused c = λ stream asks three.
    stops c.args.words.now stream (mem_storage c.args.shelf.now) (mem_storage c.vstore.new.shelf) c.args.input.now c.vstore.new.input c.args.out.now c.vstore.new.out c.args.err.now c.vstore.new.err c.vstore.result asks three c.vstore.ensures.answer

pub returns-clause-complete : goal.returns-clause-complete
returns-clause-complete c = λ stream documents ask has no_read no_write.
    c.vstore.ensures.complete (prints stream) ask (documents, (c.args.input.now.left, refl, has)) (λ failed. ⊎_elim (λ (f : Fails (source_device c.args.input.now) (source_device c.vstore.new.input)). no_read f.rose) (λ (f : Fails (sink_device c.args.out.now) (sink_device c.vstore.new.out)). no_write f.rose) failed)
