use Rattle.shelf.specs.Memory.{mem_storage}
use Rattle.shelf.proofs.Appending.{there_once_created, there_once_added}
use Rattle.shelf_tests.proofs.memory.use_as_any.Goals as goal

pub append_known-requires : goal.append_known-requires
append_known-requires g c =
    there_once_created (mem_storage c.args.shelf.now) (mem_storage c.create_known.new.shelf) c.args.name.now c.in_ok-create_known.ensures
