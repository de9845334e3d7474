use Rattle.std.proofs.Common.{subst, ℕ, List, Err}
use Rattle.store_file.specs.Beginning.{beginning, Begins}
use Rattle.file_answers.proofs.Beginnings.{refused}
use Rattle.file_answers.proofs.beginning.begin_file.Goals as goal

pub returns-in-Err-Refused-clause-begins : goal.returns-in-Err-Refused-clause-begins
returns-in-Err-Refused-clause-begins g c =
    let e = c.in-Err-Refused.ensures in
    refused c.args.name c.args.column.now (g.S.Shelf.seen c.args.shelf.now) (g.S.Shelf.seen c.begin.new.shelf) c.in-Err-Refused.rule c.in-Err-Refused.field-0 c.in-Err-Refused.field-0-is e.asks
    (λ bytes i. subst (λ (name : List ℕ). Begins (beginning bytes name) (Err c.in-Err-Refused.field-0)) c.as_str.ensures (e.begins bytes i)) e.missing
