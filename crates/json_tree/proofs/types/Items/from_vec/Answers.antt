use Rattle.std.proofs.Common.{subst, map, List, refl}
use Rattle.json_tree.specs.Json.{parts_of}
use Rattle.json_tree.specs.Valid.{AreValid}
use Rattle.json_tree.specs.View.{view}
use Rattle.json_tree.specs.declared.types.Tree.{Tree}
use Rattle.json_tree.proofs.types.Items.from_vec.Goals as goal

pub invariant_of-result : goal.invariant_of-result
invariant_of-result c = subst (λ (ts : List Tree). AreValid (parts_of (map view ts))) c.as_slice.ensures.value c.each_is_valid.ensures

pub returns : goal.returns
returns c = refl
