use Rattle.std.proofs.Common.{◌≡◌, not, drop}
use Rattle.record_assembly.specs.Cuts.{beyond, is_nil}
use Rattle.column_assembly.proofs.items.begins_later.Given as goal

abbrev pub invariant-loop-entry : goal.invariant-loop-entry
invariant-loop-entry l = not (is_nil (beyond l.lists (drop l.entry-index l.entries))) ≡ not (is_nil (beyond l.lists l.entries))
