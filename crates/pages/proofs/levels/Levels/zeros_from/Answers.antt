use Rattle.std.proofs.Common.{◌∙◌, sym, ap, ◌==◌, drop, count_by}
use Rattle.pages.specs.Shown.{shown}
use Rattle.pages.specs.declared.levels.Levels.{Levels}
use Rattle.pages.proofs.Judged.{zeros_left}
use Rattle.pages.proofs.levels.Levels.zeros_from.Goals as goal

pub returns-in-Zeros : goal.returns-in-Zeros
returns-in-Zeros c =
    sym (ap (λ (levels : Levels). count_by (λ level. level == 0) (drop c.args.from (shown levels))) c.in-Zeros.is ∙ zeros_left c.in-Zeros.count c.args.from)
