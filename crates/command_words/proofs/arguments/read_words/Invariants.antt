use Rattle.std.proofs.Common.{◌≡◌, length}
use Rattle.command_words.specs.Arguments.{arguments_of}
use Rattle.command_words.specs.Reading.{given_by, before}
use Rattle.command_words.proofs.arguments.read_words.Given as goal

abbrev pub invariant-loop-rest : goal.invariant-loop-rest
invariant-loop-rest l = before (given_by l.read) (arguments_of l.rest) ≡ arguments_of l.fn.words

abbrev pub decreases-loop-rest : goal.decreases-loop-rest
decreases-loop-rest l = length l.rest
