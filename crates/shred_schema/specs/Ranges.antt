-- Leaf columns are numbered, and the leaves of a node are a range: `count` of them from `k` on. What a mask says of a
-- range is told by tests on its leaves.
use Rattle.std.specs.Prelude.{ℕ, zero, suc, ◌+◌, Bool, true, false, not, ◌&&◌, ◌||◌, nat_le, nat_lt, List, slice_index_or}

-- leaf j is among `count` leaves from k on
abbrev pub is_among : ℕ → ℕ → ℕ → Bool
is_among j k count = nat_le k j && nat_lt j (k + count)

-- each of `count` leaves from k on passes
abbrev pub all_leaves : ℕ → ℕ → (ℕ → Bool) → Bool
all_leaves k zero p = true
all_leaves k (suc count) p = p k && all_leaves (k + 1) count p

-- which leaves a list of truth values reads; none past its end
abbrev pub reads : List Bool → ℕ → Bool
reads mask j = slice_index_or mask j false

-- each leaf
abbrev pub every : ℕ → Bool
every j = true

-- each leaf that is read passes
abbrev pub each_read : (ℕ → Bool) → ℕ → ℕ → (ℕ → Bool) → Bool
each_read mask k count p = all_leaves k count (λ j. not (mask j) || p j)

-- no leaf is read
abbrev pub none_read : (ℕ → Bool) → ℕ → ℕ → Bool
none_read mask k count = all_leaves k count (λ j. not (mask j))

-- some leaf is read
abbrev pub is_any_read : (ℕ → Bool) → ℕ → ℕ → Bool
is_any_read mask k count = not (none_read mask k count)
