use Rattle.std.proofs.Common.{◌∙◌, sym, ap}
use Rattle.json_strings.specs.Content.{only_utf8}
use Rattle.json_strings.specs.Shown.{state}
use Rattle.json_strings.proofs.Turns.{quote_turn, slash_turn, slash_stops, reads_some, tells}
use Rattle.json_strings.proofs.reader.read_escaped.Goals as goal

pub returns-in-34 : goal.returns-in-34
returns-in-34 c =
    let turn = quote_turn (state c.loop-first.content) _ c.in-Some.behind.now _ c.in-Some.ensures.cases.0 c.in-34.is in
    reads_some c.end.result _ _ _ c.ok_or.ensures.value (c.end.ensures ∙ ap only_utf8 (sym turn ∙ c.loop-first.invariant))

pub returns-in-Err : goal.returns-in-Err
returns-in-Err c =
    tells c.in-Err.fault _ _ c.in-Err.ensures.told
    (λ none. ap only_utf8 (sym c.loop-first.invariant ∙ slash_stops (state c.loop-first.content) _ c.in-Some.behind.now _ c.in-Some.ensures.cases.0 c.in-92.is none))

pub loop-first-preserved-in-Ok : goal.loop-first-preserved-in-Ok
loop-first-preserved-in-Ok c =
    sym c.in-Ok.ensures.told ∙ sym (slash_turn (state c.loop-first.content) _ c.in-Some.behind.now _ c.in-Some.ensures.cases.0 c.in-92.is) ∙ c.loop-first.invariant
