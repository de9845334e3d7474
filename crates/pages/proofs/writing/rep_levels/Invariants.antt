use Rattle.std.proofs.Common.{◌≡◌, ◌++◌, drop}
use Rattle.pages.specs.Entries.{rep_levels}
use Rattle.pages.proofs.writing.rep_levels.Given as goal

abbrev pub invariant-loop-entry : goal.invariant-loop-entry
invariant-loop-entry l = l.levels.items ++ rep_levels (drop l.entry-index l.entries) ≡ rep_levels l.entries
