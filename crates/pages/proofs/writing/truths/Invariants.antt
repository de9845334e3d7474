use Rattle.std.proofs.Common.{◌≡◌, ◌++◌, drop, map}
use Rattle.pages.specs.Entries.{values}
use Rattle.pages.specs.Written.{as_truth}
use Rattle.pages.proofs.writing.truths.Given as goal

abbrev pub invariant-loop-entry : goal.invariant-loop-entry
invariant-loop-entry l = l.cells.items ++ map as_truth (values (drop l.entry-index l.entries)) ≡ map as_truth (values l.entries)
