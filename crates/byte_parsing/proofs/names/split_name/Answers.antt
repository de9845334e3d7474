use Rattle.std.proofs.Common.{ap, sym, subst, ◌∙◌, take, ℕ}
use Rattle.std.specs.Str.{IsUtf8}
use Rattle.byte_parsing.specs.Words.{is_name_byte, is_name}
use Rattle.byte_parsing.proofs.Runs.{front_taken}
use Rattle.byte_parsing.proofs.Words.{name_is_text, name_starts}
use Rattle.byte_parsing.proofs.names.split_name.Goals as goal

pub returns-clause-utf8 : goal.returns-clause-utf8
returns-clause-utf8 c =
    let text = c.args.text.now in
    let name = c.split_at.ensures.front ∙ ap (λ (n : ℕ). take n text) c.name_len.ensures ∙ front_taken is_name_byte text in
    subst IsUtf8 (sym name) (name_is_text text)

pub returns-clause-whole : goal.returns-clause-whole
returns-clause-whole c =
    let text = c.args.text.now in
    let name = c.split_at.ensures.front ∙ ap (λ (n : ℕ). take n text) c.name_len.ensures ∙ front_taken is_name_byte text in
    ap is_name name ∙ name_starts text
