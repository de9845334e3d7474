-- The test of UTF-8.
use Rattle.std.proofs.Common.{◌≡◌, refl, sym, ℕ, List, Bool, true, false, IsUtf8}
use Rattle.std.specs.Str.{IsAscii, is_utf8}
use Rattle.std.proofs.lemmas.Str.{is_utf8-from_IsUtf8, IsUtf8-from_is_utf8, IsUtf8-from_ascii}

pub is_text : (bytes : List ℕ) → IsUtf8 bytes → true ≡ is_utf8 bytes
is_text bytes h = sym (is_utf8-from_IsUtf8 bytes h)

pub no_text : (bytes : List ℕ) → (IsUtf8 bytes → ⊥) → false ≡ is_utf8 bytes
no_text bytes h = by (is_utf8 bytes) refl
  where
    by : (b : Bool) → is_utf8 bytes ≡ b → false ≡ b
    by false e = refl
    by true e = absurd (h (IsUtf8-from_is_utf8 bytes e))

pub ascii_is_text : (bytes : List ℕ) → IsAscii bytes → true ≡ is_utf8 bytes
ascii_is_text bytes h = is_text bytes (IsUtf8-from_ascii bytes h)
