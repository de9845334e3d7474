use Rattle.shelf.specs.Memory.{mem_storage}
use Rattle.shelf.proofs.Appending.{there_once_created, there_once_added}
use Rattle.std.specs.List.{concat}
use Rattle.shelf_tests.proofs.memory.add_pieces.Goals as goal

pub append_all-requires : goal.append_all-requires
append_all-requires g c =
    record { there = there_once_created (mem_storage c.args.trial.now.shelf) (mem_storage c.create.new.self) c.args.trial.now.name c.in_ok-create.ensures.creates }

pub append_all-requires-2 : goal.append_all-requires-2
append_all-requires-2 g c =
    record { there = there_once_added (mem_storage c.create.new.self) (mem_storage c.append_all.new.shelf) c.args.trial.now.name (concat c.args.pieces.now) c.in_ok-append_all.ensures.adds }
