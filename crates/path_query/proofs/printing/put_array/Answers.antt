use Rattle.std.proofs.Common.{◌∙◌, arith}
use Rattle.path_query.specs.Matches.{at}
use Rattle.path_query.specs.Rows.{row_of}
use Rattle.path_query.proofs.Printed.{array_printed}
use Rattle.path_query.proofs.printing.put_array.Goals as goal

pub returns-clause-ok : goal.returns-clause-ok
returns-clause-ok c =
    (c.in_ok-push.ensures).items ∙ array_printed c.args.into.now.items c.put_all.new.into.items c.put_opening.new.into.items c.len-start.result (at c.args.steps.now (row_of c.args.row)) (omega arith) (c.in_ok-put_all.ensures).ok (c.in_ok-put_opening.ensures).ok
