use Rattle.std.proofs.Common.{◌≤◌, length, sym, subst, arith, Result}
use Rattle.json_tree.specs.Json.{Json}
use Rattle.json_tree.specs.View.{view}
use Rattle.exact_json.specs.Judging.{Gives}
use Rattle.exact_json.specs.declared.fault.DocFault.{DocFault}
use Rattle.exact_json.proofs.Judged.{answers, judged_text_is}
use Rattle.exact_json.proofs.LineValues.{answers_ordered}
use Rattle.exact_json.proofs.document.read_line.Goals as goal

pub returns-in-Ok-clause-exact : goal.returns-in-Ok-clause-exact
returns-in-Ok-clause-exact c =
    let short : length c.args.line.now ≤ 1048576 = omega arith in
    answers view c.args.line.now c.read_text.result (subst (λ (j : Result Json DocFault). Gives view c.read_text.result j) (sym (judged_text_is c.args.line.now short c.in-Ok.ensures.cases.1)) c.read_text.ensures)

pub returns-in-Ok-clause-ordered : goal.returns-in-Ok-clause-ordered
returns-in-Ok-clause-ordered c = answers_ordered view c.args.line.now c.read_text.result (returns-in-Ok-clause-exact c)
