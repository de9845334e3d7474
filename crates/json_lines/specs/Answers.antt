-- The kept answer, as the program holds it and as contracts see it.
use Rattle.json_lines.specs.Next.{Kept, nothing, ended, long, over, failed}
use Rattle.json_lines.specs.declared.answer.KeptAnswer.{KeptAnswer}
use Rattle.json_lines.specs.declared.answer.KeptAnswer.TheVariants as answer

abbrev pub kept_of : KeptAnswer → Kept
kept_of answer.Nothing = nothing
kept_of answer.End = ended
kept_of (answer.TooLong n) = long n
kept_of answer.InputTooLong = over
kept_of answer.ReadFault = failed
