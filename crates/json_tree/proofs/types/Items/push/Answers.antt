use Rattle.std.proofs.Common.{◌∙◌, sym, ap, subst, map, List, ◌∷◌, ◌++◌, []}
use Rattle.json_tree.specs.Json.{parts_of, items_of}
use Rattle.json_tree.specs.Valid.{AreValid}
use Rattle.json_tree.specs.View.{view}
use Rattle.json_tree.specs.declared.types.Tree.{Tree}
use Rattle.json_tree.proofs.Views.{item_pushed, valid_pushed}
use Rattle.json_tree.proofs.types.Items.push.Goals as goal

pub invariant_of-self-2 : goal.invariant_of-self-2
invariant_of-self-2 c = subst (λ (ts : List Tree). AreValid (parts_of (map view ts))) (sym c.in_ok-push.ensures.items) (valid_pushed c.self.inside.trees.items c.args.tree c.self.invariant c.tree_is_valid.ensures)

pub returns-clause-ok : goal.returns-clause-ok
returns-clause-ok c =
    ap (λ ts. items_of (parts_of (map view ts))) c.in_ok-push.ensures.items ∙ item_pushed c.self.inside.trees.items c.args.tree
    ∙ ap (λ ps. items_of ps ++ view c.args.tree ∷ []) c.self.view_is
