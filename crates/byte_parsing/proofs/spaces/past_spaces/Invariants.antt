use Rattle.std.proofs.Common.{◌≡◌, length}
use Rattle.byte_parsing.specs.Words.{past_gap}
use Rattle.byte_parsing.proofs.spaces.past_spaces.Given as goal

abbrev pub invariant-loop-rest : goal.invariant-loop-rest
invariant-loop-rest l = past_gap l.rest ≡ past_gap l.fn.text

abbrev pub decreases-loop-rest : goal.decreases-loop-rest
decreases-loop-rest l = length l.rest
