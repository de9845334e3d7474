use Rattle.std.proofs.Common.{◌∙◌, sym, ap}
use Rattle.std.specs.Option.{option_map}
use Rattle.json_strings.specs.Shown.{quote}
use Rattle.json_strings.proofs.Turns.{utf8_read, utf8_refused}
use Rattle.json_strings.proofs.content.Content.end.Goals as goal

pub returns : goal.returns
returns c = sym (utf8_read _ c.args.self.bytes.items _ _ _ c.in_ok-text.ensures.0 c.in_ok-text.ensures.1 c.is_lone-lone.ensures)

pub returns-in_err-text : goal.returns-in_err-text
returns-in_err-text c =
    ap (λ o. option_map quote o) c.from_residual.ensures ∙ sym (utf8_refused c.args.self.bytes.items _ _ c.in_err-text.ensures)
