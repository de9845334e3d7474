use Rattle.std.proofs.Common.{◌≡◌, ℕ, [], length, get_or}
use Rattle.row_assembler.proofs.leaf_places.empty_cursors.Given as goal

abbrev pub invariant-loop-leaf : goal.invariant-loop-leaf
invariant-loop-leaf l = (length l.cursors.items ≡ l._leaf) × ((j : ℕ) → get_or l.cursors.items j [] ≡ [])
