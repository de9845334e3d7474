use Rattle.std.proofs.Common.{◌≡◌, ◌++◌, drop}
use Rattle.std.specs.List.{flat_map}
use Rattle.vs_bytes.specs.Outcome.{Grows}
use Rattle.pages.specs.Written.{value_written}
use Rattle.pages.proofs.writing.append_cells.Given as goal

abbrev pub invariant-loop-entry : goal.invariant-loop-entry
invariant-loop-entry l = record {
  bytes : l.into.items ++ flat_map (λ e. value_written l.leaf.phys e.value) (drop l.entry-index l.entries) ≡ l.initial.into.items ++ flat_map (λ e. value_written l.leaf.phys e.value) l.entries;
  grows : Grows l.initial.into.items l.into.items;
}
