-- The first items of all leaves, and leaves of which they were taken.
use Rattle.std.specs.Prelude.{◌≡◌, ℕ, ◌==◌, Bool, List, [], cond, length, slice_index_or}
use Rattle.vs_bytes.specs.declared.leaf_columns.Entry.{Entry}
use Rattle.shred_schema.specs.Ranges.{is_among}
use Rattle.record_assembly.specs.Cuts.{first_item, later_items}

-- the entries of a leaf's first item, m being the level of the list
abbrev pub heads : ℕ → List (List Entry) → ℕ → List Entry
heads m cursors j = first_item m (slice_index_or cursors j [])

-- the first item was taken of the leaves that `took` names, and the others are as before
pub record Taken (took : ℕ → Bool) (old new : List (List Entry)) (m : ℕ) : Type 0 where
  pub same : length new ≡ length old
  pub each : (j : ℕ) → slice_index_or new j [] ≡ cond (took j) (later_items m (slice_index_or old j [])) (slice_index_or old j [])

-- the same of one leaf, and of `count` leaves from k on
abbrev pub TakenAt : List (List Entry) → List (List Entry) → ℕ → ℕ → Type 0
TakenAt old new k m = Taken (λ j. j == k) old new m

abbrev pub Passed : List (List Entry) → List (List Entry) → ℕ → ℕ → ℕ → Type 0
Passed old new k count m = Taken (λ j. is_among j k count) old new m
