-- The limits of a schema.
use Rattle.std.specs.Prelude.{ℕ}

-- of its own text
abbrev pub most_bytes : ℕ
most_bytes = 16384

-- of braces and brackets that are open at once
abbrev pub most_nesting : ℕ
most_nesting = 16

-- of its column, with the leaf of the metadata
abbrev pub most_leaves : ℕ
most_leaves = 128

-- of the digits of a decimal
abbrev pub most_precision : ℕ
most_precision = 38
