use Rattle.std.proofs.Common.{◌∙◌, sym, ap, subst, Option, arith}
use Rattle.json_strings.specs.Content.{Quote, plain_state, only_utf8}
use Rattle.json_strings.specs.Shown.{quote}
use Rattle.vs_bytes.specs.Outcome.{Reads}
use Rattle.json_strings.proofs.Rests.{told_shorter}
use Rattle.json_strings.proofs.Turns.{begins, quote_turn, nothing_turn, stop_turn}
use Rattle.json_strings.proofs.reader.read_any.Goals as goal

pub returns-in_default-clause-told : goal.returns-in_default-clause-told
returns-in_default-clause-told c =
    let front = c.plain_len.ensures in
    begins _ c.args.text.now _ _ front.within front.plain c.split_at.ensures.front c.split_at.ensures.back ∙ ap only_utf8 (nothing_turn (plain_state c.split_at.result.0.now) c.split_at.result.1.now c.in_default.ensures.cases)

pub returns-in-34-clause-told : goal.returns-in-34-clause-told
returns-in-34-clause-told c =
    let front = c.plain_len.ensures in
    let all = begins _ c.args.text.now _ _ front.within front.plain c.split_at.ensures.front c.split_at.ensures.back in
    subst (λ (o : Option Quote). Reads quote c.read_plain.result o) (sym (all ∙ ap only_utf8 (quote_turn (plain_state c.split_at.result.0.now) c.split_at.result.1.now c.in-Some.rest.now _ c.in-Some.ensures.cases.0 c.in-34.is))) c.read_plain.ensures

pub returns-in-92-clause-told : goal.returns-in-92-clause-told
returns-in-92-clause-told c =
    let front = c.plain_len.ensures in
    subst (λ (o : Option Quote). Reads quote c.read_escaped.result o) (sym (begins _ c.args.text.now _ _ front.within front.plain c.split_at.ensures.front c.split_at.ensures.back)) c.read_escaped.ensures

pub returns-in_default-first-clause-told : goal.returns-in_default-first-clause-told
returns-in_default-first-clause-told c =
    let front = c.plain_len.ensures in
    begins _ c.args.text.now _ _ front.within front.plain c.split_at.ensures.front c.split_at.ensures.back
    ∙ ap only_utf8 (stop_turn (plain_state c.split_at.result.0.now) _ c.args.text.now _ c.in-Some.rest.now c.in-Some.first.now front.ended c.split_at.ensures.back c.in-Some.ensures.cases.0 (omega arith) (omega arith))

pub returns-in-92-clause-shorter : goal.returns-in-92-clause-shorter
returns-in-92-clause-shorter c = told_shorter c.args.text.now c.read_escaped.result (returns-in-92-clause-told c)
