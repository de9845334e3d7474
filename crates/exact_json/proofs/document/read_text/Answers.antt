use Rattle.std.proofs.Common.{sym, subst, Result}
use Rattle.json_tree.specs.Json.{Json}
use Rattle.json_tree.specs.View.{view}
use Rattle.exact_json.specs.Judging.{Gives}
use Rattle.exact_json.specs.Shown.{shown}
use Rattle.exact_json.specs.declared.fault.DocFault.{DocFault}
use Rattle.exact_json.proofs.Judged.{text_judged}
use Rattle.exact_json.proofs.document.read_text.Goals as goal

pub returns-in-Ok : goal.returns-in-Ok
returns-in-Ok c =
    subst (λ (j : Result Json DocFault). Gives view c.unless_flawed.result j) (sym (text_judged (shown c.new-noted.result) c.args.line.now (view c.in-Ok.tree) (shown c.read_document.new.noted) c.new-noted.ensures c.in-Ok.ensures.told)) c.unless_flawed.ensures
