use Rattle.std.proofs.Common.{◌≡◌, map, length}
use Rattle.file_columns.specs.Columns.{named}
use Rattle.file_columns.specs.Views.{seen}
use Rattle.file_columns.proofs.members.find_named.Given as goal

abbrev pub invariant-loop-rest : goal.invariant-loop-rest
invariant-loop-rest l = named l.name (map seen l.rest) ≡ named l.name (map seen l.fn.children)

abbrev pub decreases-loop-rest : goal.decreases-loop-rest
decreases-loop-rest l = length l.rest
