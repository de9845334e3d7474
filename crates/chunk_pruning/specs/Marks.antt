-- Masks that are marked step by step.
use Rattle.std.specs.Prelude.{◌≡◌, ℕ, Bool, ◌||◌, List}
use Rattle.shred_schema.specs.Ranges.{reads}

-- the new mask reads what the old one does, and the leaves that pass
pub record IsMarked (old : List Bool) (passes : ℕ → Bool) (new : List Bool) : Type 0 where
  pub each : (j : ℕ) → reads new j ≡ (reads old j || passes j)
