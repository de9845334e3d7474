-- That a string is UTF-8 is kept in it.
use Rattle.std.proofs.Common.{◌≡◌, subst, ap}
use Rattle.std.specs.Str.{IsUtf8}
use Rattle.std.proofs.lemmas.Str.{IsUtf8-had}
use Rattle.vs_bytes.proofs.utf8_text.Text.from_utf8.Goals as goal

pub returns-in-Ok : goal.returns-in-Ok
returns-in-Ok c =
    let same : c.in-Ok.text.bytes.items ≡ c.args.bytes.items = ap (λ v. v.items) c.in-Ok.ensures.ok in
    (subst IsUtf8 same (IsUtf8-had _ c.in-Ok.text.ok), same)
