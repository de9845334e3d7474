use Rattle.std.proofs.Common.{◌∙◌, sym, ap, subst, map}
use Rattle.json_tree.specs.Json.{fields_of, object}
use Rattle.json_tree.specs.Valid.{IsValid}
use Rattle.json_tree.specs.View.{seen}
use Rattle.json_tree.proofs.types.Members.as_slice.Goals as goal

pub returns-clause-seen : goal.returns-clause-seen
returns-clause-seen c = sym c.self.view_is ∙ ap (λ ms. fields_of (map seen ms)) (sym c.as_slice.ensures.value)

pub returns-clause-valid : goal.returns-clause-valid
returns-clause-valid c = subst (λ fs. IsValid (object fs)) c.self.view_is c.self.invariant
