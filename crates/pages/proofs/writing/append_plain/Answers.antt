use Rattle.std.proofs.Common.{◌∙◌, ◌++◌, ap, ℕ, List}
use Rattle.pages.proofs.Truths.{cells_written}
use Rattle.pages.proofs.writing.append_plain.Goals as goal

pub returns-in-Ok-clause-ok : goal.returns-in-Ok-clause-ok
returns-in-Ok-clause-ok c =
    c.in-Ok.ensures.ok ∙ ap (λ (bytes : List ℕ). c.args.into.now.items ++ bytes) (cells_written c.args.leaf.now.phys c.args.entries.now)
