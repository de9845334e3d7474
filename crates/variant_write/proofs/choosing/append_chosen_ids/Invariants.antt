use Rattle.std.proofs.Common.{◌≡◌, ◌++◌, map, drop}
use Rattle.json_tree.specs.Json.{fields_of}
use Rattle.json_tree.specs.View.{seen}
use Rattle.variant_write.specs.Chosen.{chosen}
use Rattle.variant_write.specs.Coded.{ids_of}
use Rattle.variant_write.proofs.choosing.append_chosen_ids.Given as goal

-- the ids so far, and those of the members that are left
abbrev pub invariant-loop-i : goal.invariant-loop-i
invariant-loop-i l = l.into.items ++ ids_of l.dict (chosen (drop l.i l.kept) (fields_of (map seen (drop l.i l.pairs)))) ≡ l.fn.into.items ++ ids_of l.dict (chosen l.kept (fields_of (map seen l.pairs)))
