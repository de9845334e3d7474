-- Bytes that are ASCII and stand for themselves.
use Rattle.std.specs.Prelude.{◌≡◌, ◌==◌, nat_lt, ℕ, ◌<◌, List, Bool, false, ◌||◌, slice_index}

-- a quote, a backslash, a control byte, or a byte that is no ASCII
unfoldable pub is_special : ℕ → Bool
is_special x = ((x == 34 || x == 92) || nat_lt x 32) || nat_lt 127 x

-- none of the first n bytes is special
pub record IsClearTo (text : List ℕ) (n : ℕ) : Type 0 where
  pub clear : (k : ℕ) → k < n → is_special (slice_index text k) ≡ false
