use Rattle.command_parsing.specs.Commands.{check_of}
use Rattle.file_answers.proofs.judging.judge_file.Goals as goal

pub returns-in-Ok : goal.returns-in-Ok
returns-in-Ok g c = record { judges = c.judge_groups.ensures.judges (check_of c.args.asked) (g.S.Shelf.seen c.args.shelf.now) c.in-Ok.ensures.begins }
