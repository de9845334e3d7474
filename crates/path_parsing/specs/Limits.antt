-- The limits of a path.
use Rattle.std.specs.Prelude.{ℕ}

abbrev pub most_steps : ℕ
most_steps = 64

-- of its own text
abbrev pub most_bytes : ℕ
most_bytes = 4096

-- of an index
abbrev pub most_digits : ℕ
most_digits = 9

-- the index of so many digits
abbrev pub greatest_index : ℕ
greatest_index = 999999999
