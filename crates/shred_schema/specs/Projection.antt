-- A column without the leaves that aren't read. Its leaves are those that are, in their order and numbered without
-- gaps; a typed part of which no leaf is read isn't there, and the fields of any other keep their places.
use Rattle.std.specs.Prelude.{◌≡◌, ℕ, zero, suc, ◌+◌, Bool, true, false, ◌||◌, cond}
use Rattle.shred_schema.specs.Groups.{Group, group, Kind, free, scalar, object_of, list_of, Groups, no_groups, field, slot_width, width, kind_width}
use Rattle.shred_schema.specs.Ranges.{none_read, is_any_read}
use Rattle.shred_schema.specs.declared.nodes.Slot.TheVariants.{Absent}

-- how many of `count` leaves from k on are read
abbrev pub count_read : (ℕ → Bool) → ℕ → ℕ → ℕ
count_read mask k zero = 0
count_read mask k (suc count) = cond (mask k) (suc (count_read mask (k + 1) count)) (count_read mask (k + 1) count)

-- the place of leaf j among those that are read
abbrev pub place : (ℕ → Bool) → ℕ → ℕ
place mask j = count_read mask 0 j

-- the node whose first leaf is k
abbrev mutual
  pub projected : Group → ℕ → (ℕ → Bool) → Group
  projected (group s t) k mask = group (cond (mask k) s Absent) (cond (none_read mask (k + slot_width s) (kind_width t)) free (kind_kept t (k + slot_width s) mask))

  pub kind_kept : Kind → ℕ → (ℕ → Bool) → Kind
  kind_kept free k mask = free
  kind_kept (scalar q) k mask = scalar q
  kind_kept (object_of gs) k mask = object_of (groups_projected gs k mask)
  kind_kept (list_of n) k mask = list_of (projected n k mask)

  pub groups_projected : Groups → ℕ → (ℕ → Bool) → Groups
  groups_projected no_groups k mask = no_groups
  groups_projected (field name n gs) k mask = field name (projected n k mask) (groups_projected gs (k + width n) mask)

abbrev pub kind_projected : Kind → ℕ → (ℕ → Bool) → Kind
kind_projected t k mask = cond (none_read mask k (kind_width t)) free (kind_kept t k mask)

-- Which masks can be read under.

-- whether the mask reads the value of some node
abbrev mutual
  pub reads_value : (ℕ → Bool) → Group → ℕ → Bool
  reads_value mask (group s t) k = is_any_read mask k (slot_width s) || kind_reads_value mask t (k + slot_width s)

  pub kind_reads_value : (ℕ → Bool) → Kind → ℕ → Bool
  kind_reads_value mask free k = false
  kind_reads_value mask (scalar q) k = false
  kind_reads_value mask (object_of gs) k = fields_read_value mask gs k
  kind_reads_value mask (list_of n) k = reads_value mask n k

  pub fields_read_value : (ℕ → Bool) → Groups → ℕ → Bool
  fields_read_value mask no_groups k = false
  fields_read_value mask (field name n gs) k = reads_value mask n k || fields_read_value mask gs (k + width n)

-- a closed mask reads the metadata, which is leaf 0, if it reads a value
abbrev pub IsClosed : (ℕ → Bool) → Group → Type 0
IsClosed mask n = reads_value mask n 1 ≡ true → mask 0 ≡ true
