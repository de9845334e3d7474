use Rattle.std.proofs.Common.{◌∙◌, ap, sym, arith}
use Rattle.std.proofs.lemmas.Str.Pattern.{split_parts}
use Rattle.command_words.specs.Arguments.{name_of, value_in}
use Rattle.command_words.proofs.Cuts.{cut_name, cut_value, whole_name, no_value}
use Rattle.command_words.proofs.arguments.split_option.Goals as goal

pub returns-in-Some-clause-name : goal.returns-in-Some-clause-name
returns-in-Some-clause-name c =
    let parts = rw c.in-Some.is at (split_parts 61 c.args.word.now c.split_once.result c.split_once.ensures.cases (omega arith)) in
    sym (ap name_of parts.0 ∙ cut_name c.in-Some.name.now c.in-Some.value.now (record { each = parts.1 }))

pub returns-in-Some-clause-value : goal.returns-in-Some-clause-value
returns-in-Some-clause-value c =
    let parts = rw c.in-Some.is at (split_parts 61 c.args.word.now c.split_once.result c.split_once.ensures.cases (omega arith)) in
    sym (ap value_in parts.0 ∙ cut_value c.in-Some.name.now c.in-Some.value.now (record { each = parts.1 }))

pub returns-in-None-clause-name : goal.returns-in-None-clause-name
returns-in-None-clause-name c =
    let parts = rw c.in-None.is at (split_parts 61 c.args.word.now c.split_once.result c.split_once.ensures.cases (omega arith)) in
    sym (whole_name c.args.word.now (record { each = parts }))

pub returns-in-None-clause-value : goal.returns-in-None-clause-value
returns-in-None-clause-value c =
    let parts = rw c.in-None.is at (split_parts 61 c.args.word.now c.split_once.result c.split_once.ensures.cases (omega arith)) in
    sym (no_value c.args.word.now (record { each = parts }))
