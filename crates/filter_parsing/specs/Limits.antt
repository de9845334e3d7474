-- The limits of a filter.
use Rattle.std.specs.Prelude.{ℕ}

abbrev pub most_bytes : ℕ
most_bytes = 65536

abbrev pub most_terms : ℕ
most_terms = 256

-- of `not`s and brackets round one term
abbrev pub most_nesting : ℕ
most_nesting = 64
