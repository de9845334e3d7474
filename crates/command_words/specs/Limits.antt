-- The limits of a command line.
use Rattle.std.specs.Prelude.{ℕ}

abbrev pub most_paths : ℕ
most_paths = 64

abbrev pub most_digits : ℕ
most_digits = 10
