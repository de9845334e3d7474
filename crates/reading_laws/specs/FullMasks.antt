-- Masks that read each leaf of a column.
use Rattle.std.specs.Prelude.{◌≡◌, ℕ, ◌+◌, Bool, true}
use Rattle.shred_schema.specs.Groups.{Group, width}
use Rattle.shred_schema.specs.Ranges.{is_among}

-- leaf 0 is the metadata, and the node's leaves come after it
abbrev pub ReadsAll : (ℕ → Bool) → Group → Type 0
ReadsAll mask n = (j : ℕ) → is_among j 0 (1 + width n) ≡ true → mask j ≡ true
