use Rattle.std.proofs.Common.{◌≡◌, ℕ, [], length, get_or}
use Rattle.level_striping.proofs.striping.empty_leaves.Given as goal

abbrev pub invariant-loop-leaf : goal.invariant-loop-leaf
invariant-loop-leaf l = (length l.leaves.items ≡ l._leaf) × ((j : ℕ) → get_or l.leaves.items j [] ≡ [])
