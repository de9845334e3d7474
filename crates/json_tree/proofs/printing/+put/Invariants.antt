use Rattle.std.proofs.Common.{◌≡◌, ◌++◌, map, drop}
use Rattle.json_tree.specs.Grown.{Grows}
use Rattle.json_tree.specs.Json.{parts_of, fields_of}
use Rattle.json_tree.specs.Text.{parts_text, more_parts, fields_text, more_fields}
use Rattle.json_tree.specs.View.{view, seen}
use Rattle.json_tree.proofs.printing.+put.Given as goal

abbrev pub invariant-put_items-loop-tree : goal.invariant-put_items-loop-tree
invariant-put_items-loop-tree l = record {
  text : l.into.items ++ more_parts (parts_of (map view (drop l.tree-index l.others))) ≡ l.fn.into.items ++ parts_text (parts_of (map view l.trees));
  grows : Grows l.fn.into.items l.into.items;
}

abbrev pub invariant-put_members-loop-pair : goal.invariant-put_members-loop-pair
invariant-put_members-loop-pair l = record {
  text : l.into.items ++ more_fields (fields_of (map seen (drop l.pair-index l.others))) ≡ l.fn.into.items ++ fields_text (fields_of (map seen l.pairs));
  grows : Grows l.fn.into.items l.into.items;
}
