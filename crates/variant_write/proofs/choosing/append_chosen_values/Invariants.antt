use Rattle.std.proofs.Common.{◌≡◌, map, drop}
use Rattle.json_tree.specs.Json.{fields_of}
use Rattle.json_tree.specs.View.{seen}
use Rattle.vs_bytes.specs.Outcome.{Grows}
use Rattle.variant_write.specs.Chosen.{chosen}
use Rattle.variant_write.specs.Coded.{values_coded}
use Rattle.variant_write.proofs.Gathering.{Gathers}
use Rattle.variant_write.proofs.choosing.append_chosen_values.Given as goal

abbrev pub invariant-loop-i : goal.invariant-loop-i
invariant-loop-i l = record {
  gathers : Gathers l.fn.into.items l.fn.ends.items (values_coded l.dict (chosen l.kept (fields_of (map seen l.pairs))) l.widths) l.into.items l.ends.items (values_coded l.dict (chosen (drop l.i l.kept) (fields_of (map seen (drop l.i l.pairs)))) l.widths);
  spare : l.spare.items ≡ l.fn.spare.items;
  grows : Grows l.fn.into.items l.into.items;
}
