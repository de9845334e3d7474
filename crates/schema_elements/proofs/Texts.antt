-- Names.
use Rattle.std.proofs.Common.{◌≡◌, List, ℕ, true, IsUtf8}
use Rattle.std.specs.Str.{is_utf8}
use Rattle.std.proofs.lemmas.Str.{IsUtf8-from_is_utf8}

pub utf8_is : (bytes : List ℕ) → is_utf8 bytes ≡ true → IsUtf8 bytes
utf8_is bytes e = IsUtf8-from_is_utf8 bytes e
