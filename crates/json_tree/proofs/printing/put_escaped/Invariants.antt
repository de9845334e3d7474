use Rattle.std.proofs.Common.{◌≡◌, ◌++◌, ◌≤◌, take, drop, flat_map}
use Rattle.json_tree.specs.Grown.{Grows}
use Rattle.json_tree.specs.Text.{escaped}
use Rattle.json_tree.proofs.printing.put_escaped.Given as goal

abbrev pub invariant-loop-i : goal.invariant-loop-i
invariant-loop-i l = record {
  within : l.start ≤ l.i;
  text : l.into.items ++ drop l.start (take l.i l.text) ≡ l.fn.into.items ++ flat_map escaped (take l.i l.text);
  grows : Grows l.fn.into.items l.into.items;
}
