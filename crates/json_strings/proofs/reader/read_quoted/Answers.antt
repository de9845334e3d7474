use Rattle.std.proofs.Common.{sym, subst, Option}
use Rattle.std.proofs.lemmas.Str.{IsUtf8-from_ascii}
use Rattle.json_strings.specs.Content.{Quote}
use Rattle.json_strings.specs.Shown.{quote}
use Rattle.vs_bytes.specs.Outcome.{Reads}
use Rattle.json_strings.proofs.ClearRuns.{clear_ascii, clear_string}
use Rattle.json_strings.proofs.reader.read_quoted.Goals as goal

pub read_ascii-requires : goal.read_ascii-requires
read_ascii-requires c =
    let front = c.ascii_len.ensures in
    IsUtf8-from_ascii _ (clear_ascii _ c.args.text.now c.split_at.result.0.now front.clear c.split_at.ensures.front)

pub returns-then-first-eq34-clause-told : goal.returns-then-first-eq34-clause-told
returns-then-first-eq34-clause-told c =
    let front = c.ascii_len.ensures in
    subst (λ (o : Option Quote). Reads quote c.read_ascii.result o) (sym (clear_string _ c.args.text.now c.split_at.result.0.now c.split_at.result.1.now c.in-Some.rest.now _ front.within front.clear c.split_at.ensures.front c.split_at.ensures.back c.in-Some.ensures.cases.0 c.if-first-eq34.true)) c.read_ascii.ensures
