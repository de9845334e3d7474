use Rattle.std.proofs.Common.{◌∙◌, sym, ap, ℕ}
use Rattle.hybrid_levels.specs.Hybrid.{decoded_len}
use Rattle.pages.proofs.Borne.{unborne}
use Rattle.pages.proofs.levels.stored.Goals as goal

pub returns-in-Err-clause-exact : goal.returns-in-Err-clause-exact
returns-in-Err-clause-exact c =
    unborne c.args.maximum c.args.count c.args.bytes.now c.in-Err.rule
    (ap (λ (width : ℕ). decoded_len width c.args.count c.args.bytes.now) (sym c.level_width.ensures.value) ∙ c.in-Err.ensures.exact)
