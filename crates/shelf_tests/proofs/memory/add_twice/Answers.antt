use Rattle.std.proofs.Common.{[], ◌∷◌}
use Rattle.shelf.specs.Memory.{mem_storage}
use Rattle.shelf.proofs.Appending.{there_once_created, there_once_added}
use Rattle.shelf_tests.proofs.memory.add_twice.Goals as goal

pub append-requires : goal.append-requires
append-requires c =
    record { there = there_once_created (mem_storage c.args.trial.now.shelf) (mem_storage c.create.new.self) c.args.trial.now.name c.in_ok-create.ensures.creates }

pub append-requires-2 : goal.append-requires-2
append-requires-2 c =
    record { there = there_once_added (mem_storage c.create.new.self) (mem_storage c.append.new.self) c.args.trial.now.name (97 ∷ 98 ∷ 99 ∷ 100 ∷ []) c.in_ok-append.ensures.adds }
