use Rattle.std.proofs.Common.{◌∙◌, List, ℕ, ◌++◌, ap}
use Rattle.json_tree.specs.View.{view}
use Rattle.variant_meta.specs.Written.{coded_names}
use Rattle.variant_write.proofs.Known.{own_names}
use Rattle.variant_write.proofs.known_names.KnownNames.of.Goals as goal

pub invariant_of-result : goal.invariant_of-result
invariant_of-result c = record {
  own = own_names c.in_ok-names.names.items c.in_ok-dictionary.dictionary (view c.args.tree.now) c.in_ok-names.ensures c.in_ok-dictionary.ensures.names;
  written = c.in_ok-write.ensures.ok ∙ ap (λ (front : List ℕ). front ++ coded_names c.args.least c.in_ok-dictionary.dictionary) c.in_ok-metadata.ensures.items;
}
