use Rattle.std.proofs.Common.{refl}
use Rattle.open_group.specs.OpenGroups.{row_of}
use Rattle.store_write.proofs.Standing.{stands_pushed}
use Rattle.store_write.proofs.file_writer.FileWriter.push.Goals as goal

pub returns-in-Ok-clause-stands : goal.returns-in-Ok-clause-stands
returns-in-Ok-clause-stands g c = λ rows stands.
    stands_pushed c.args.self.now _ (g.S.Shelf.seen c.args.shelf.now) (g.S.Shelf.seen c.add_row.new.shelf) (row_of c.args.row) rows c.in-Ok.ensures.pushes c.add_row.ensures.column refl refl stands
