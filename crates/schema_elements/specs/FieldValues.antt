-- What the fields of schema elements hold beside plain numbers.
use Rattle.std.specs.Prelude.{List, ℕ, not, if◌then◌else◌, ℤ, pos, negsuc, ◌≤ℤ◌, Option, Some, None}
use Rattle.std.specs.Ordering.{int_eq}
use Rattle.std.specs.Str.{is_utf8}
use Rattle.thrift_compact.specs.Trees.{Value, bool_value, i8_value, binary_value}

-- an i8, as a number
abbrev pub small_in : Value → Option ℤ
small_in (i8_value z) = Some z
small_in v = None

-- a truth value, as 0 or 1
abbrev pub flag_in : Value → Option ℤ
flag_in (bool_value truth) = Some (if truth then pos 1 else pos 0)
flag_in v = None

-- UTF-8 text
abbrev pub text_in : Value → Option (List ℕ)
text_in (binary_value bytes) = if is_utf8 bytes then Some bytes else None
text_in v = None

abbrev pub small_value : ℤ → Value
small_value = i8_value

abbrev pub flag_value : ℤ → Value
flag_value z = bool_value (not (int_eq z (pos 0)))

-- a number of 8 bits
abbrev pub IsI8 : ℤ → Type 0
IsI8 z = (negsuc 127 ≤ℤ z) × (z ≤ℤ pos 127)

-- 0 or 1
abbrev pub IsFlag : ℤ → Type 0
IsFlag z = (pos 0 ≤ℤ z) × (z ≤ℤ pos 1)
