use Rattle.std.proofs.Common.{◌∙◌, refl}
use Rattle.json_strings.proofs.Turns.{utf8_read, utf8_refused}
use Rattle.json_strings.proofs.reader.read_plain.Goals as goal

pub returns-in_ok-from_str-in-Ok : goal.returns-in_ok-from_str-in-Ok
returns-in_ok-from_str-in-Ok c =
    utf8_read _ c.args.run.now _ _ _ c.in-Ok.ensures.cases.1 (c.in_ok-from_str-in-Ok.ensures ∙ c.in-Ok.ensures.cases.0) refl

pub returns-in-Err : goal.returns-in-Err
returns-in-Err c = utf8_refused c.args.run.now _ _ c.in-Err.ensures.cases.0
