use Rattle.std.proofs.Common.{◌∙◌, arith, map}
use Rattle.query_tree.specs.View.{steps_of}
use Rattle.path_query.specs.Rows.{row_of}
use Rattle.path_query.proofs.Printed.{line_printed}
use Rattle.path_query.proofs.printing.put_line.Goals as goal

pub returns-clause-ok : goal.returns-clause-ok
returns-clause-ok c =
    (c.in_ok-extend_from_slice.ensures).items ∙ line_printed c.args.into.now.items c.put_members.new.into.items c.put_opening.new.into.items c.len-start.result (map steps_of c.args.paths.now) (row_of c.args.row) (omega arith) (c.in_ok-put_members.ensures).ok (c.in_ok-put_opening.ensures).ok
