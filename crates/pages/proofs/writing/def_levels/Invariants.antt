use Rattle.std.proofs.Common.{◌≡◌, ◌++◌, drop}
use Rattle.pages.specs.Entries.{def_levels}
use Rattle.pages.proofs.writing.def_levels.Given as goal

abbrev pub invariant-loop-entry : goal.invariant-loop-entry
invariant-loop-entry l = l.levels.items ++ def_levels (drop l.entry-index l.entries) ≡ def_levels l.entries
