use Rattle.std.proofs.Common.{arith, length, ◌<◌}
use Rattle.path_parsing.proofs.Texts.{rest_shorter}
use Rattle.path_parsing.proofs.reader.read_path.Goals as goal

pub overflow_sub-text : goal.overflow_sub-text
overflow_sub-text c =
    let shorter : length c.in_ok-steps.rest.now < length c.args.text.now = rest_shorter 36 64 c.args.text.now c.in-Some.inside.now _ c.in_ok-steps.rest.now c.in-Some.ensures c.in_ok-steps.ensures in
    omega arith

pub returns-clause-shorter : goal.returns-clause-shorter
returns-clause-shorter c = rest_shorter 36 64 c.args.text.now c.in-Some.inside.now _ c.in_ok-steps.rest.now c.in-Some.ensures c.in_ok-steps.ensures
