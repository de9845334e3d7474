use Rattle.std.proofs.Common.{◌∙◌, sym, ap, subst, map}
use Rattle.json_tree.specs.Json.{parts_of, array}
use Rattle.json_tree.specs.Valid.{IsValid}
use Rattle.json_tree.specs.View.{view}
use Rattle.json_tree.proofs.types.Items.as_slice.Goals as goal

pub returns-clause-seen : goal.returns-clause-seen
returns-clause-seen c = sym c.self.view_is ∙ ap (λ ts. parts_of (map view ts)) (sym c.as_slice.ensures.value)

pub returns-clause-valid : goal.returns-clause-valid
returns-clause-valid c = subst (λ ps. IsValid (array ps)) c.self.view_is c.self.invariant
