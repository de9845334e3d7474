use Rattle.std.proofs.Common.{◌≡◌, length, map}
use Rattle.query_tree.specs.View.{steps_of}
use Rattle.command_parsing.specs.Queries.{is_repeated}
use Rattle.command_parsing.proofs.query_texts.is_repeated.Given as goal

abbrev pub invariant-loop-rest : goal.invariant-loop-rest
invariant-loop-rest l = is_repeated (map steps_of l.rest) ≡ is_repeated (map steps_of l.fn.paths)

abbrev pub decreases-loop-rest : goal.decreases-loop-rest
decreases-loop-rest l = length l.rest
