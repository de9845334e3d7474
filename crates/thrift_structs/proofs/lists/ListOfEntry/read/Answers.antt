use Rattle.thrift_structs.proofs.Items.{list_is}
use Rattle.thrift_structs.proofs.lists.ListOfEntry.read.Goals as goal

pub returns : goal.returns
returns g c = rw (list_is g.E.Entry.shape g.E.Entry.read c.args._kind c.args.bytes.now) c.read_list.ensures
