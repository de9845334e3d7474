-- Which nodes a column may have, and which the writer makes.
use Rattle.std.specs.Prelude.{◌≡◌, ℕ, ◌≤◌, ◌+◌, false}
use Rattle.vs_bytes.specs.Names.{repeats}
use Rattle.vs_bytes.specs.declared.leaf_columns.PrimKind.{PrimKind}
use Rattle.vs_bytes.specs.declared.leaf_columns.PrimKind.TheVariants as prim
use Rattle.exact_num.specs.Decimal.{max_digits}
use Rattle.shred_schema.specs.Groups.{Group, group, Kind, free, scalar, object_of, list_of, Groups, no_groups, field, field_names, width, groups_width, nesting}
use Rattle.shred_schema.specs.declared.nodes.Slot.{Slot}
use Rattle.shred_schema.specs.declared.nodes.Slot.TheVariants.{Absent}

-- objects and lists nest so deep at most, and a column has so many leaves at most
abbrev pub max_nesting : ℕ
max_nesting = 64

abbrev pub max_leaves : ℕ
max_leaves = 1024

-- an object has a field, and no two of one name
abbrev pub HasField : Groups → Type 0
HasField no_groups = ⊥
HasField (field name n gs) = Unit {0}

pub record IsObject (gs : Groups) : Type 0 where
  pub some : HasField gs
  pub differ : repeats (field_names gs) ≡ false

-- each node's value and typed part pass `V`, and each kind of cells `P`
abbrev mutual
  pub EachNode : (Slot → Kind → Type 0) → (PrimKind → Type 0) → Group → Type 0
  EachNode V P (group s t) = V s t × EachIn V P t

  pub EachIn : (Slot → Kind → Type 0) → (PrimKind → Type 0) → Kind → Type 0
  EachIn V P free = Unit {0}
  EachIn V P (scalar q) = P q
  EachIn V P (object_of gs) = IsObject gs × EachField V P gs
  EachIn V P (list_of n) = EachNode V P n

  pub EachField : (Slot → Kind → Type 0) → (PrimKind → Type 0) → Groups → Type 0
  EachField V P no_groups = Unit {0}
  EachField V P (field name n gs) = EachNode V P n × EachField V P gs

-- Any column.

-- a node without a typed part has a value
abbrev pub HasEither : Slot → Kind → Type 0
HasEither Absent free = ⊥
HasEither s t = Unit {0}

abbrev pub MayHold : PrimKind → Type 0
MayHold prim.Raw = ⊥
MayHold (prim.Decimal p s) = (p ≤ max_digits) × (s ≤ p)
MayHold q = Unit {0}

-- the nodes of a column
abbrev pub AreNodes : Group → Type 0
AreNodes = EachNode HasEither MayHold

-- a well-formed column, by the node at its top. Its first leaf is the metadata
pub record IsWellFormed (n : Group) : Type 0 where
  pub nodes : AreNodes n
  pub deep : nesting n ≤ max_nesting
  pub few : 1 + width n ≤ max_leaves

-- A column that is written.

-- a node has a value
abbrev pub HasValue : Slot → Kind → Type 0
HasValue Absent t = ⊥
HasValue s t = Unit {0}

-- a precision and a scale that can be written
pub record IsDecimalKind (p s : ℕ) : Type 0 where
  pub some : 1 ≤ p
  pub most : p ≤ max_digits
  pub places : s ≤ p

abbrev pub IsWritten : PrimKind → Type 0
IsWritten prim.Raw = ⊥
IsWritten (prim.Decimal p s) = IsDecimalKind p s
IsWritten (prim.Refused rule) = ⊥
IsWritten q = Unit {0}

-- the nodes that a schema describes
abbrev pub AllWritten : Group → Type 0
AllWritten = EachNode HasValue IsWritten

-- What a projected column keeps of this.

-- the fields of an object have a leaf together, and so has the element of a list
abbrev mutual
  pub HasLeaves : Group → Type 0
  HasLeaves (group s t) = KindHasLeaves t

  pub KindHasLeaves : Kind → Type 0
  KindHasLeaves free = Unit {0}
  KindHasLeaves (scalar q) = Unit {0}
  KindHasLeaves (object_of gs) = (1 ≤ groups_width gs) × GroupsHaveLeaves gs
  KindHasLeaves (list_of n) = (1 ≤ width n) × HasLeaves n

  pub GroupsHaveLeaves : Groups → Type 0
  GroupsHaveLeaves no_groups = Unit {0}
  GroupsHaveLeaves (field name n gs) = HasLeaves n × GroupsHaveLeaves gs
