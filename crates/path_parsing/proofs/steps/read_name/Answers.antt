use Rattle.path_parsing.proofs.steps.read_name.Goals as goal

pub returns-in-Err : goal.returns-in-Err
returns-in-Err c = absurd (c.in-Err.ensures.cases.0 c.split_name.ensures.utf8)
