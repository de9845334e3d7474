use Rattle.std.proofs.Common.{◌∙◌, sym, ap}
use Rattle.json_tree.specs.View.{view}
use Rattle.variant_write.proofs.Known.{nothing_left, same_names}
use Rattle.variant_write.specs.Known.{Named}
use Rattle.variant_write.proofs.known_names.KnownNames.stand_in.Goals as goal

pub returns-in-Some : goal.returns-in-Some
returns-in-Some c = λ none. ap (λ (k : Named). k.names) (sym c.self.view_is)
    ∙ same_names c.self.inside.names.items c.self.inside.dictionary c.in-Some.rest.now (view c.args.tree.now) c.self.invariant.own (sym c.as_slice.ensures.value ∙ c.in-Some.ensures)
    (nothing_left c.in-Some.rest.now c.is_empty.result c.is_empty.ensures none)
