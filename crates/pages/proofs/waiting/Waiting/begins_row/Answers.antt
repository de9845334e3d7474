use Rattle.std.proofs.Common.{◌∙◌, sym, ap, nat_eq, arith, ℕ}
use Rattle.pages.specs.RowStarts.{begins_row}
use Rattle.pages.specs.Shown.{shown}
use Rattle.pages.proofs.Judged.{left_begins, ends_begins}
use Rattle.pages.proofs.waiting.Waiting.begins_row.Goals as goal

pub at-requires : goal.at-requires
at-requires c = omega (arith, c.if-self.false, c.self.invariant.reps_len, c.self.invariant.given)

pub returns-then-self : goal.returns-then-self
returns-then-self c =
    let w = c.self.inside in
    sym (ap begins_row (sym c.self.view_is) ∙ ends_begins w.leaf (shown w.reps) (shown w.defs) w.count w.at w.values w.used c.self.invariant c.if-self.true)

pub returns : goal.returns
returns c =
    let w = c.self.inside in
    ap (λ (rep : ℕ). nat_eq rep 0) c.at.ensures ∙ sym (ap begins_row (sym c.self.view_is) ∙ left_begins w.leaf (shown w.reps) (shown w.defs) w.count w.at w.values w.used c.self.invariant (omega (arith, c.if-self.false, c.self.invariant.given)))
