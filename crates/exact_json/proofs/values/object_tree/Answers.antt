use Rattle.std.proofs.Common.{refl, sym}
use Rattle.exact_json.proofs.Objects.{given_names, not_repeated, repeated}
use Rattle.exact_json.proofs.values.object_tree.Goals as goal

pub returns-in-Ok-clause-tree : goal.returns-in-Ok-clause-tree
returns-in-Ok-clause-tree c =
    let once = not_repeated _ c.in-Ok.members c.in-Ok.ensures.repeated in
    rw (given_names c.args.pairs.items, once, c.in-Ok.ensures.ok) refl

pub returns-in-Ok-clause-repeated : goal.returns-in-Ok-clause-repeated
returns-in-Ok-clause-repeated c = rw (given_names c.args.pairs.items) (sym (not_repeated _ c.in-Ok.members c.in-Ok.ensures.repeated))

pub returns-in-Err-clause-tree : goal.returns-in-Err-clause-tree
returns-in-Err-clause-tree c = rw (given_names c.args.pairs.items, repeated _ c.in-Err.field-0 c.in-Err.ensures.repeated) refl

pub returns-in-Err-clause-repeated : goal.returns-in-Err-clause-repeated
returns-in-Err-clause-repeated c = rw (given_names c.args.pairs.items) (sym (repeated _ c.in-Err.field-0 c.in-Err.ensures.repeated))
