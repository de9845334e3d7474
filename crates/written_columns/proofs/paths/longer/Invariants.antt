use Rattle.std.proofs.Common.{◌≡◌, ◌++◌, drop}
use Rattle.written_columns.proofs.paths.longer.Given as goal

abbrev pub invariant-loop-part : goal.invariant-loop-part
invariant-loop-part l = l.path ++ drop l.part-index l.way ≡ l.way
