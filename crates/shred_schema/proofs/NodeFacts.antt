-- What follows for the nodes of a well-formed column.
use Rattle.std.proofs.Common.{◌≡◌, ◌∙◌, ap₂, refl, ℕ, ◌+◌, ◌≤◌, nat_le, cond, Bool, true, false, ◌&&◌, length, length-append, arith}
use Rattle.std.proofs.lemmas.Bool.Decides.{nat_tests}
use Rattle.exact_num.specs.Decimal.{max_digits}
use Rattle.vs_bytes.specs.declared.leaf_columns.Phys.TheVariants as phys
use Rattle.vs_bytes.specs.declared.leaf_columns.PrimKind.{PrimKind}
use Rattle.vs_bytes.specs.declared.leaf_columns.PrimKind.TheVariants as prim
use Rattle.shred_schema.specs.Kinds.{unread, holds_decimals, decimal_type, kind_read, type_written, note_written}
use Rattle.shred_schema.specs.Leaves.{value_leaves, leaves_of, kind_leaves, groups_leaves, top_level, column_leaves}
use Rattle.shred_schema.specs.declared.nodes.Slot.{Slot}
use Rattle.shred_schema.specs.declared.nodes.Slot.TheVariants.{Absent, Required, Optional}
use Rattle.shred_schema.specs.Groups.{Group, group, Kind, free, scalar, object_of, list_of, Groups, no_groups, field, slot_width, width, kind_width, groups_width, nesting, kind_nesting, groups_nesting, height, kind_height, groups_height}
use Rattle.shred_schema.specs.Lawful.{HasEither, HasValue, AreNodes, AllWritten, HasField, HasLeaves, KindHasLeaves, GroupsHaveLeaves, EachIn, EachField, MayHold, IsWritten}

mutual
  -- each node of a column has a leaf
  pub nodes_width : (n : Group) → AreNodes n → 1 ≤ width n
  nodes_width (group Required t) h = omega arith
  nodes_width (group Optional t) h = omega arith
  nodes_width (group Absent t) h = omega (arith, kind_some t h.0 h.1)

  kind_some : (t : Kind) → HasEither Absent t → EachIn HasEither MayHold t → 1 ≤ kind_width t
  kind_some free v h = absurd v
  kind_some (scalar q) v h = omega arith
  kind_some (object_of gs) v h = groups_some gs h.0.some h.1
  kind_some (list_of n) v h = nodes_width n h

  groups_some : (gs : Groups) → HasField gs → EachField HasEither MayHold gs → 1 ≤ groups_width gs
  groups_some no_groups some h = absurd some
  groups_some (field name n gs) some h = omega (arith, nodes_width n h.0)

mutual
  pub height_most : (n : Group) → height n ≤ nesting n + 1
  height_most (group s t) = omega (arith, kind_most t)

  kind_most : (t : Kind) → kind_height t ≤ kind_nesting t
  kind_most free = omega arith
  kind_most (scalar q) = omega arith
  kind_most (object_of gs) = groups_most gs
  kind_most (list_of n) = height_most n

  groups_most : (gs : Groups) → groups_height gs ≤ groups_nesting gs + 1
  groups_most no_groups = omega arith
  groups_most (field name n gs) = omega (arith, height_most n, groups_most gs)

mutual
  -- each object and each list of a column has a leaf
  pub nodes_have_leaves : (n : Group) → AreNodes n → HasLeaves n
  nodes_have_leaves (group s t) h = kind_has_leaves t h.1

  kind_has_leaves : (t : Kind) → EachIn HasEither MayHold t → KindHasLeaves t
  kind_has_leaves free h = tt
  kind_has_leaves (scalar q) h = tt
  kind_has_leaves (object_of gs) h = (groups_some gs h.0.some h.1, groups_have_leaves gs h.1)
  kind_has_leaves (list_of n) h = (nodes_width n h, nodes_have_leaves n h)

  groups_have_leaves : (gs : Groups) → EachField HasEither MayHold gs → GroupsHaveLeaves gs
  groups_have_leaves no_groups h = tt
  groups_have_leaves (field name n gs) h = (nodes_have_leaves n h.0, groups_have_leaves gs h.1)

has_either : (s : Slot) (t : Kind) → HasValue s t → HasEither s t
has_either Absent t h = absurd h
has_either Required t h = tt
has_either Optional t h = tt

may_hold : (q : PrimKind) → IsWritten q → MayHold q
may_hold prim.Raw h = absurd h
may_hold prim.Boolean h = tt
may_hold prim.Int8 h = tt
may_hold prim.Int16 h = tt
may_hold prim.Int32 h = tt
may_hold prim.Int64 h = tt
may_hold (prim.Decimal p s) h = (h.most, h.places)
may_hold prim.Text h = tt
may_hold (prim.Refused why) h = absurd h

mutual
  -- what a schema describes is a node of a column
  pub written_are_nodes : (n : Group) → AllWritten n → AreNodes n
  written_are_nodes (group s t) h = (has_either s t h.0, written_kind t h.1)

  written_kind : (t : Kind) → EachIn HasValue IsWritten t → EachIn HasEither MayHold t
  written_kind free h = tt
  written_kind (scalar q) h = may_hold q h
  written_kind (object_of gs) h = (h.0, written_fields gs h.1)
  written_kind (list_of n) h = written_are_nodes n h

  written_fields : (gs : Groups) → EachField HasValue IsWritten gs → EachField HasEither MayHold gs
  written_fields no_groups h = tt
  written_fields (field name n gs) h = (written_are_nodes n h.0, written_fields gs h.1)

-- A node has as many leaves as its width.

slot_leaves : (s : Slot) (r d : ℕ) → length (value_leaves s r d) ≡ slot_width s
slot_leaves Absent r d = refl
slot_leaves Required r d = refl
slot_leaves Optional r d = refl

mutual
  pub leaf_count : (n : Group) (r d : ℕ) → length (leaves_of n r d) ≡ width n
  leaf_count (group s t) r d =
      length-append (value_leaves s r d) (kind_leaves t r d) ∙ ap₂ (λ a b. a + b) (slot_leaves s r d) (kind_leaf_count t r d)

  kind_leaf_count : (t : Kind) (r d : ℕ) → length (kind_leaves t r d) ≡ kind_width t
  kind_leaf_count free r d = refl
  kind_leaf_count (scalar q) r d = refl
  kind_leaf_count (object_of gs) r d = groups_leaf_count gs r (d + 1)
  kind_leaf_count (list_of n) r d = leaf_count n (r + 1) (d + 2)

  groups_leaf_count : (gs : Groups) (r d : ℕ) → length (groups_leaves gs r d) ≡ groups_width gs
  groups_leaf_count no_groups r d = refl
  groups_leaf_count (field name n gs) r d =
      length-append (leaves_of n r d) (groups_leaves gs r d) ∙ ap₂ (λ a b. a + b) (leaf_count n r d) (groups_leaf_count gs r d)

pub column_leaf_count : (optional : Bool) (n : Group) → length (column_leaves optional n) ≡ 1 + width n
column_leaf_count optional n = let count = leaf_count n 0 (top_level optional) in omega (arith, count)

-- The kind that is written is the kind that is read.

holds_written : (a b : Bool) → holds_decimals (cond a phys.Int32 (cond b phys.Int64 (phys.Fixed 16))) ≡ true
holds_written true b = refl
holds_written false true = refl
holds_written false false = refl

decimal_tests : (p s : ℕ) → p ≤ max_digits → s ≤ p → (nat_le p max_digits && nat_le s p) ≡ true
decimal_tests p s h k = grind (arith, nat_tests)

decimal_read : (p s : ℕ) (holds tests : Bool) → holds ≡ true → tests ≡ true → cond (holds && tests) (prim.Decimal p s) (unread (decimal_type p)) ≡ prim.Decimal p s
decimal_read p s holds tests h k = rw (h, k) refl

pub kind_reads_back : (q : PrimKind) → IsWritten q → kind_read (type_written q) (note_written q) ≡ q
kind_reads_back prim.Raw h = absurd h
kind_reads_back prim.Boolean h = refl
kind_reads_back prim.Int8 h = refl
kind_reads_back prim.Int16 h = refl
kind_reads_back prim.Int32 h = refl
kind_reads_back prim.Int64 h = refl
kind_reads_back (prim.Decimal p s) h =
    decimal_read p s (holds_decimals (decimal_type p)) (nat_le p max_digits && nat_le s p) (holds_written (nat_le p 9) (nat_le p 18)) (decimal_tests p s h.most h.places)
kind_reads_back prim.Text h = refl
kind_reads_back (prim.Refused why) h = absurd h
