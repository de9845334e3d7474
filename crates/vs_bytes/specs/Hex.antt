-- Bytes in lower-case hex digits.
use Rattle.std.specs.Prelude.{ℕ, List}
use Rattle.hex.specs.Hex.{encode_lower}

-- two digits a byte, `0` to `9` and `a` to `f`: those of the high half, then those of the low half
abbrev pub hex_of : List ℕ → List ℕ
hex_of bytes = encode_lower bytes
