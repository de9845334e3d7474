use Rattle.store_file.proofs.GroupsRead.{rows_stopped}
use Rattle.store_file.proofs.store_file.StoreFile.rows.Goals as goal

pub returns-in-Err : goal.returns-in-Err
returns-in-Err g c =
    rows_stopped c.args.self.now (g.S.Shelf.seen c.args.shelf.now) (g.S.Shelf.seen c.read_trees.new.shelf)
    c.args.group c.at.result.now c.in-Err.stop c.fault_of.result c.at.ensures c.in-Err.ensures c.fault_of.ensures
