use Rattle.store_write.proofs.Ending.{made_in}
use Rattle.store_write.proofs.file_writer.FileWriter.finish.Goals as goal

pub returns-in-Ok-clause-made : goal.returns-in-Ok-clause-made
returns-in-Ok-clause-made g c = λ rows stands. made_in c.args.self (g.S.Shelf.seen c.args.shelf.now) (g.S.Shelf.seen c.end_file.new.shelf) rows c.in-Ok.ensures stands
