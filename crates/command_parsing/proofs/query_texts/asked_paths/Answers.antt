use Rattle.command_parsing.proofs.ReadTexts.{path_wrong, paths_more}
use Rattle.command_parsing.proofs.query_texts.asked_paths.Goals as goal

pub returns-in-Err : goal.returns-in-Err
returns-in-Err c = path_wrong c.args.texts.now c.loop-text.text-index _ c.in-Err.fault c.loop-text-test.true c.in-Err.ensures

pub loop-text-preserved : goal.loop-text-preserved
loop-text-preserved c = paths_more c.args.texts.now c.loop-text.text-index _ c.loop-text.paths c.push.new.self c.in-Ok.path c.loop-text-test.true c.in-Ok-push.ensures.ok c.loop-text.invariant c.in-Ok.ensures
