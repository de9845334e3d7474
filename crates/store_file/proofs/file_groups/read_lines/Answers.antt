use Rattle.query_tree.specs.Asked.{query_of}
use Rattle.store_file.proofs.Beginning.{can_need}
use Rattle.store_file.proofs.file_groups.read_lines.Goals as goal

pub open_group-requires : goal.open_group-requires
open_group-requires g c = record { can = can_need c.args.file.now (query_of c.args.query.now) c.args.mask.now c.requires.usable c.requires.reads }
