use Rattle.std.proofs.Common.{ap, sym, map, subst, List}
use Rattle.json_tree.specs.Json.{parts_of}
use Rattle.json_tree.specs.Valid.{AreValid}
use Rattle.json_tree.specs.View.{view}
use Rattle.json_tree.specs.declared.types.Tree.{Tree}
use Rattle.json_tree.proofs.types.Items.new.Goals as goal

pub invariant_of-result : goal.invariant_of-result
invariant_of-result c = subst (λ (ts : List Tree). AreValid (parts_of (map view ts))) (sym c.new.ensures.items) tt

pub returns : goal.returns
returns c = ap (λ ts. parts_of (map view ts)) c.new.ensures.items
