use Rattle.std.proofs.Common.{◌≡◌, ◌+◌, ◌-◌, ◌≤◌, ◌^◌, length, map, drop, min}
use Rattle.json_tree.specs.Json.{parts_of, fields_of}
use Rattle.json_tree.specs.Text.{parts_text, more_parts, fields_text, more_fields}
use Rattle.json_tree.specs.View.{view, seen}
use Rattle.json_tree.proofs.lengths.+text_len.Given as goal

abbrev pub invariant-items_len-loop-tree : goal.invariant-items_len-loop-tree
invariant-items_len-loop-tree l = record {
  within : l.len ≤ 2 ^ 64 - 1;
  len : min (l.len + length (more_parts (parts_of (map view (drop l.tree-index l.others))))) (2 ^ 64 - 1) ≡ min (length (parts_text (parts_of (map view l.trees)))) (2 ^ 64 - 1);
}

abbrev pub invariant-members_len-loop-pair : goal.invariant-members_len-loop-pair
invariant-members_len-loop-pair l = record {
  within : l.len ≤ 2 ^ 64 - 1;
  len : min (l.len + length (more_fields (fields_of (map seen (drop l.pair-index l.others))))) (2 ^ 64 - 1) ≡ min (length (fields_text (fields_of (map seen l.pairs)))) (2 ^ 64 - 1);
}
