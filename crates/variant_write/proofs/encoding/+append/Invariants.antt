use Rattle.std.proofs.Common.{◌≡◌, ◌≤◌, length, map, drop}
use Rattle.json_tree.specs.Json.{parts_of, fields_of}
use Rattle.json_tree.specs.Text.{more_parts, more_fields}
use Rattle.json_tree.specs.View.{view, seen}
use Rattle.vs_bytes.specs.Outcome.{Grows}
use Rattle.variant_write.specs.Coded.{elements_coded, values_coded}
use Rattle.variant_write.specs.Conditions.{ElementsHaveNames, FieldsHaveNames, max_text_len}
use Rattle.variant_write.proofs.Gathering.{Gathers}
use Rattle.variant_write.proofs.encoding.+append.Given as goal

abbrev pub invariant-append_elements-loop-tree : goal.invariant-append_elements-loop-tree
invariant-append_elements-loop-tree l = record {
  gathers : Gathers l.fn.into.items l.fn.ends.items (elements_coded l.dict (parts_of (map view l.trees)) l.widths) l.into.items l.ends.items (elements_coded l.dict (parts_of (map view (drop l.tree-index l.trees))) l.widths);
  names : ElementsHaveNames l.dict (parts_of (map view (drop l.tree-index l.trees)));
  small : length (more_parts (parts_of (map view (drop l.tree-index l.trees)))) ≤ max_text_len;
  spare : l.spare.items ≡ l.fn.spare.items;
  grows : Grows l.fn.into.items l.into.items;
}

abbrev pub invariant-append_values-loop-pair : goal.invariant-append_values-loop-pair
invariant-append_values-loop-pair l = record {
  gathers : Gathers l.fn.into.items l.fn.ends.items (values_coded l.dict (fields_of (map seen l.pairs)) l.widths) l.into.items l.ends.items (values_coded l.dict (fields_of (map seen (drop l.pair-index l.pairs))) l.widths);
  names : FieldsHaveNames l.dict (fields_of (map seen (drop l.pair-index l.pairs)));
  small : length (more_fields (fields_of (map seen (drop l.pair-index l.pairs)))) ≤ max_text_len;
  spare : l.spare.items ≡ l.fn.spare.items;
  grows : Grows l.fn.into.items l.into.items;
}
