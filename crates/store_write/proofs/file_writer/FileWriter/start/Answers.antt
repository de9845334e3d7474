use Rattle.shred_schema.specs.Views.{group_of}
use Rattle.schema_parsing.proofs.Canonical.{canonical_is_schema}
use Rattle.shelf.proofs.Appending.{there_once_created}
use Rattle.store_write.proofs.Starting.{started, stands_started}
use Rattle.store_write.proofs.file_writer.FileWriter.start.Goals as goal

pub append-requires : goal.append-requires
append-requires g c =
    record { there = there_once_created (g.S.Shelf.seen c.args.shelf.now) (g.S.Shelf.seen c.create.new.self) c.in-Ok.writer.name c.in-Ok-create.ensures.creates }

pub returns-in-Ok-append-clause-starts : goal.returns-in-Ok-append-clause-starts
returns-in-Ok-append-clause-starts g c =
    started (g.S.Shelf.seen c.args.shelf.now) (g.S.Shelf.seen c.create.new.self) (g.S.Shelf.seen c.append.new.self) c.args.name c.in-Ok.writer.name c.in-Ok.ensures.form.named c.in-Ok-create.ensures.creates c.in-Ok-append.ensures.adds

pub returns-in-Ok-append-clause-stands : goal.returns-in-Ok-append-clause-stands
returns-in-Ok-append-clause-stands g c =
    stands_started c.in-Ok.writer (g.S.Shelf.seen c.args.shelf.now) (g.S.Shelf.seen c.append.new.self) c.args.name c.in-Ok.ensures.form.named
    (started (g.S.Shelf.seen c.args.shelf.now) (g.S.Shelf.seen c.create.new.self) (g.S.Shelf.seen c.append.new.self) c.args.name c.in-Ok.writer.name c.in-Ok.ensures.form.named c.in-Ok-create.ensures.creates c.in-Ok-append.ensures.adds)
    c.in-Ok.ensures.stands

pub new-requires-clause-schema : goal.new-requires-clause-schema
new-requires-clause-schema g c = canonical_is_schema c.requires.schema.text (group_of c.args.node) c.requires.schema.is_schema
