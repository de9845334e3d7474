-- What judging tells of a value.
use Rattle.std.proofs.Common.{◌≡◌, refl, ap, ℕ, true, Ok, Err}
use Rattle.std.specs.Prelude.{is_ok}
use Rattle.vs_bytes.specs.declared.rule.Rule.{Rule}
use Rattle.variant_read.specs.Primitives.{Meaning}
use Rattle.variant_read.specs.Meaning.{json_in, size_in}

pub judged_ok : (meaning : Meaning) (size : ℕ) → size_in meaning ≡ Ok size → is_ok meaning ≡ true
judged_ok (Ok read) size e = refl
judged_ok (Err rule) size e = absurd (cc)

pub judged_err : (meaning : Meaning) (rule : Rule) → size_in meaning ≡ Err rule → json_in meaning ≡ Err rule
judged_err (Ok read) rule e = absurd (cc)
judged_err (Err other) rule e = let same : other ≡ rule = cc in ap (λ (r : Rule). Err r) same
