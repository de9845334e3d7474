use Rattle.std.proofs.Common.{◌≡◌, ◌++◌, map, drop}
use Rattle.json_tree.specs.Json.{fields_of}
use Rattle.json_tree.specs.View.{seen}
use Rattle.variant_write.specs.Coded.{ids_of}
use Rattle.variant_write.specs.Conditions.{FieldsHaveNames}
use Rattle.variant_write.proofs.field_ids.append_ids.Given as goal

-- the ids so far, and those of the fields that are left
abbrev pub invariant-loop-pair : goal.invariant-loop-pair
invariant-loop-pair l = record {
  ids : l.into.items ++ ids_of l.dict (fields_of (map seen (drop l.pair-index l.pairs))) ≡ l.fn.into.items ++ ids_of l.dict (fields_of (map seen l.pairs));
  names : FieldsHaveNames l.dict (fields_of (map seen (drop l.pair-index l.pairs)));
}
