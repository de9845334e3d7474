-- Levels of which none is above the maximum.
use Rattle.std.proofs.Common.{◌≡◌, refl, ℕ, zero, suc, ◌<◌, ◌≤◌, nat_lt, Bool, true, false, ◌||◌, List, [], ◌∷◌, slice_index, arith}
use Rattle.std.specs.List.{list_any}
use Rattle.std.proofs.lemmas.Bool.{ltb-false}

never : true ≡ false → ⊥
never h = let wrong : true ≡ false = h in cc

none_passes : (maximum : ℕ) (levels : List ℕ) → list_any (λ level. nat_lt maximum level) levels ≡ false → (i : ℕ) → slice_index levels i ≤ maximum
none_passes maximum [] none i = omega arith
none_passes maximum (level ∷ levels) none i = by (nat_lt maximum level) refl none (none_passes maximum levels) i
  where
    by : (b : Bool) → nat_lt maximum level ≡ b → (b || list_any (λ l. nat_lt maximum l) levels) ≡ false →
        (list_any (λ l. nat_lt maximum l) levels ≡ false → (i : ℕ) → slice_index levels i ≤ maximum) →
        (i : ℕ) → slice_index (level ∷ levels) i ≤ maximum
    by true is found later i = absurd (never found)
    by false is rest later zero = ltb-false maximum level is
    by false is rest later (suc i) = later rest i

pub small_levels : (maximum : ℕ) (levels : List ℕ) → maximum < 65536 → list_any (λ level. nat_lt maximum level) levels ≡ false → (i : ℕ) → slice_index levels i < 65536
small_levels maximum levels small none i = let least = none_passes maximum levels none i in omega (arith, least, small)
