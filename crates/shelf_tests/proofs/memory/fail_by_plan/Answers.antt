use Rattle.shelf.specs.Memory.{mem_storage}
use Rattle.shelf.proofs.Appending.{there_once_created}
use Rattle.shelf_tests.proofs.memory.fail_by_plan.Goals as goal

pub append-requires : goal.append-requires
append-requires g c =
    record { there = there_once_created (mem_storage c.create.new.self) (mem_storage c.create-2.new.self) c.args.name.now c.in_ok-create.ensures.creates }
