use Rattle.std.proofs.Common.{◌∙◌, sym, ap}
use Rattle.pages.specs.RowStarts.{row_starts}
use Rattle.pages.specs.Shown.{shown}
use Rattle.pages.proofs.Judged.{left_starts}
use Rattle.pages.proofs.waiting.Waiting.row_starts.Goals as goal

pub returns : goal.returns
returns c =
    let w = c.self.inside in
    c.zeros_from.ensures
    ∙ sym (ap row_starts (sym c.self.view_is) ∙ left_starts w.leaf (shown w.reps) (shown w.defs) w.count w.at w.values w.used c.self.invariant)
