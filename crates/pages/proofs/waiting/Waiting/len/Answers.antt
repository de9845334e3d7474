use Rattle.std.proofs.Common.{◌∙◌, sym, ap, length}
use Rattle.pages.specs.Shown.{shown}
use Rattle.pages.proofs.Judged.{left_len}
use Rattle.pages.proofs.waiting.Waiting.len.Goals as goal

pub returns : goal.returns
returns c =
    let w = c.self.inside in
    sym (ap length (sym c.self.view_is) ∙ left_len w.leaf (shown w.reps) (shown w.defs) w.count w.at w.values w.used c.self.invariant)
