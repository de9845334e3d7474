-- The schema elements that are written read back.
use Rattle.std.proofs.Common.{refl, ℕ, ◌+◌, ◌≤◌, Bool, true, false, List, [], ◌∷◌, ◌++◌, arith}
use Rattle.std.specs.Prelude.{All, pos, IfSome}
use Rattle.std.specs.List.{AllByRecursion}
use Rattle.std.proofs.lemmas.Int.{ints}
use Rattle.std.proofs.lemmas.List.Elements.{All-from_recursion}
use Rattle.vs_bytes.specs.declared.leaf_columns.Phys.{Phys}
use Rattle.vs_bytes.specs.declared.leaf_columns.Phys.TheVariants as phys
use Rattle.vs_bytes.specs.declared.leaf_columns.PrimKind.{PrimKind}
use Rattle.vs_bytes.specs.declared.leaf_columns.PrimKind.TheVariants as prim
use Rattle.thrift_compact.specs.PageWriting.{IsI32, IsCount}
use Rattle.shred_schema.specs.Groups.{Group, group, Kind, free, scalar, object_of, list_of, Groups, no_groups, field}
use Rattle.shred_schema.specs.Lawful.{HasValue, IsWritten, AllWritten, EachIn, EachField}
use Rattle.shred_schema.specs.declared.kinds.Note.TheVariants as note
use Rattle.shred_schema.specs.declared.nodes.Slot.{Slot}
use Rattle.shred_schema.specs.declared.nodes.Slot.TheVariants.{Absent, Required, Optional}
use Rattle.schema_elements.specs.ElementWriting.{ElementReadsBack}
use Rattle.schema_elements.specs.declared.elements.SchemaElement.{SchemaElement}
use Rattle.written_columns.specs.Written.{type_number, as_i32, length_written, truth, leaf_element, group_element, root_element, column_element, root_name, value_name, typed_name, list_name, element_name, metadata_name, member_count, field_count, value_elements, member_elements, typed_elements, field_elements, schema_elements}
use Rattle.written_columns.proofs.Fits.{each_fits}
use Rattle.store_laws.proofs.NodeNames.{EachName, EachNameIn, EachFieldName, IsNamed, plain_named}

-- all but the logical type
record NumbersReadBack (e : SchemaElement) : Type 0 where
  kind : IfSome e.kind IsI32
  type_length : IfSome e.type_length IsI32
  repetition_type : IfSome e.repetition_type IsI32
  named : IsNamed e.name
  num_children : IfSome e.num_children (λ n. IsCount n × IsI32 n)
  converted_type : IfSome e.converted_type IsI32
  scale : IfSome e.scale IsI32
  precision : IfSome e.precision IsI32

small : (n : ℕ) → n ≤ 1000 → IsI32 (pos n)
small n h = omega (arith, h)

capped : (n : ℕ) → IsCount (as_i32 n) × IsI32 (as_i32 n)
capped n = (omega (arith, ints), omega arith)

type_small : (t : Phys) → IsI32 (pos (type_number t))
type_small phys.Boolean = omega arith
type_small phys.Int32 = omega arith
type_small phys.Int64 = omega arith
type_small phys.Other = omega arith
type_small phys.Float = omega arith
type_small phys.Double = omega arith
type_small phys.ByteArray = omega arith
type_small (phys.Fixed size) = omega arith

length_small : (t : Phys) → IfSome (length_written t) IsI32
length_small phys.Boolean = tt
length_small phys.Int32 = tt
length_small phys.Int64 = tt
length_small phys.Other = tt
length_small phys.Float = tt
length_small phys.Double = tt
length_small phys.ByteArray = tt
length_small (phys.Fixed size) = omega arith

leaf_back : (q : PrimKind) (r : ℕ) (name : List ℕ) → IsWritten q → r ≤ 2 → IsNamed name → NumbersReadBack (leaf_element q r name)
unfolding leaf_element
leaf_back prim.Raw r name h low named = absurd h
leaf_back prim.Boolean r name h low named = record { kind = omega arith; type_length = tt; repetition_type = omega (arith, low); named = named; num_children = tt; converted_type = tt; scale = tt; precision = tt }
leaf_back prim.Int8 r name h low named = record { kind = omega arith; type_length = tt; repetition_type = omega (arith, low); named = named; num_children = tt; converted_type = omega arith; scale = tt; precision = tt }
leaf_back prim.Int16 r name h low named = record { kind = omega arith; type_length = tt; repetition_type = omega (arith, low); named = named; num_children = tt; converted_type = omega arith; scale = tt; precision = tt }
leaf_back prim.Int32 r name h low named = record { kind = omega arith; type_length = tt; repetition_type = omega (arith, low); named = named; num_children = tt; converted_type = tt; scale = tt; precision = tt }
leaf_back prim.Int64 r name h low named = record { kind = omega arith; type_length = tt; repetition_type = omega (arith, low); named = named; num_children = tt; converted_type = tt; scale = tt; precision = tt }
leaf_back (prim.Decimal p s) r name h low named = record { kind = type_small _; type_length = length_small _; repetition_type = omega (arith, low); named = named; num_children = tt; converted_type = omega arith; scale = omega (arith, h.most, h.places); precision = omega (arith, h.most) }
leaf_back prim.Text r name h low named = record { kind = omega arith; type_length = tt; repetition_type = omega (arith, low); named = named; num_children = tt; converted_type = omega arith; scale = tt; precision = tt }
leaf_back (prim.Refused why) r name h low named = absurd h

raw_back : (r : ℕ) (name : List ℕ) → r ≤ 2 → IsNamed name → NumbersReadBack (leaf_element prim.Raw r name)
unfolding leaf_element
raw_back r name low named = record { kind = omega arith; type_length = tt; repetition_type = omega (arith, low); named = named; num_children = tt; converted_type = tt; scale = tt; precision = tt }

group_back : (r : ℕ) (name : List ℕ) (count : ℕ) → r ≤ 2 → IsNamed name → NumbersReadBack (group_element r name count note.None)
unfolding group_element
group_back r name count low named = record { kind = tt; type_length = tt; repetition_type = omega (arith, low); named = named; num_children = capped count; converted_type = tt; scale = tt; precision = tt }

list_back : (r : ℕ) (name : List ℕ) (count : ℕ) → r ≤ 2 → IsNamed name → NumbersReadBack (group_element r name count note.List)
unfolding group_element
list_back r name count low named = record { kind = tt; type_length = tt; repetition_type = omega (arith, low); named = named; num_children = capped count; converted_type = omega arith; scale = tt; precision = tt }

-- the names that are the writer's own
value_named : IsNamed value_name
value_named = plain_named value_name refl (omega arith)

typed_named : IsNamed typed_name
typed_named = plain_named typed_name refl (omega arith)

list_named : IsNamed list_name
list_named = plain_named list_name refl (omega arith)

element_named : IsNamed element_name
element_named = plain_named element_name refl (omega arith)

pub metadata_named : IsNamed metadata_name
metadata_named = plain_named metadata_name refl (omega arith)

root_back : NumbersReadBack root_element
unfolding root_element
root_back = record { kind = tt; type_length = tt; repetition_type = tt; named = plain_named root_name refl (omega arith); num_children = (omega (arith, ints), omega arith); converted_type = tt; scale = tt; precision = tt }

truth_small : (b : Bool) → IsI32 (truth b)
truth_small true = omega arith
truth_small false = omega arith

column_back : (optional : Bool) (name : List ℕ) (count : ℕ) → IsNamed name → NumbersReadBack (column_element optional name count)
unfolding column_element
column_back optional name count named = record { kind = tt; type_length = tt; repetition_type = truth_small optional; named = named; num_children = capped count; converted_type = tt; scale = tt; precision = tt }

both : (xs ys : List SchemaElement) → AllByRecursion NumbersReadBack xs → AllByRecursion NumbersReadBack ys → AllByRecursion NumbersReadBack (xs ++ ys)
both [] ys h k = k
both (x ∷ xs) ys h k = (h.0, both xs ys h.1 k)

value_back : (s : Slot) → AllByRecursion NumbersReadBack (value_elements s)
value_back Absent = tt
value_back Required = (raw_back 0 value_name (omega arith) value_named, tt)
value_back Optional = (raw_back 1 value_name (omega arith) value_named, tt)

mutual
  members_back : (n : Group) → AllWritten n → EachName IsNamed n → AllByRecursion NumbersReadBack (member_elements n)
  members_back (group s t) h names = both (value_elements s) (typed_elements t) (value_back s) (typed_back t h.1 names)

  typed_back : (t : Kind) → EachIn HasValue IsWritten t → EachNameIn IsNamed t → AllByRecursion NumbersReadBack (typed_elements t)
  typed_back free h names = tt
  typed_back (scalar q) h names = (leaf_back q 1 typed_name h (omega arith) typed_named, tt)
  typed_back (object_of gs) h names = (group_back 1 typed_name (field_count gs) (omega arith) typed_named, fields_back gs h.1 names)
  typed_back (list_of n) h names = (list_back 1 typed_name 1 (omega arith) typed_named, (group_back 2 list_name 1 (omega arith) list_named, (group_back 0 element_name (member_count n) (omega arith) element_named, members_back n h names)))

  fields_back : (gs : Groups) → EachField HasValue IsWritten gs → EachFieldName IsNamed gs → AllByRecursion NumbersReadBack (field_elements gs)
  fields_back no_groups h names = tt
  fields_back (field name n gs) h names =
      both (group_element 0 name (member_count n) note.None ∷ member_elements n) (field_elements gs) (group_back 0 name (member_count n) (omega arith) names.0, members_back n h.0 names.1) (fields_back gs h.1 names.2)

numbers_back : (optional : Bool) (name : List ℕ) (n : Group) → IsNamed name → AllWritten n → EachName IsNamed n → AllByRecursion NumbersReadBack (schema_elements optional name n)
numbers_back optional name n named h names = (root_back, (column_back optional name (member_count n + 1) named, (raw_back 0 metadata_name (omega arith) metadata_named, members_back n h names)))

pub elements_back : (optional : Bool) (name : List ℕ) (n : Group) → IsNamed name → AllWritten n → EachName IsNamed n → All ElementReadsBack (schema_elements optional name n)
elements_back optional name n named h names k other inside =
    let numbers = All-from_recursion NumbersReadBack (schema_elements optional name n) (numbers_back optional name n named h names) k other inside in
    record {
      kind = numbers.kind;
      type_length = numbers.type_length;
      repetition_type = numbers.repetition_type;
      utf8 = numbers.named.utf8;
      name = numbers.named.short;
      num_children = numbers.num_children;
      converted_type = numbers.converted_type;
      scale = numbers.scale;
      precision = numbers.precision;
      logical_type = each_fits optional name n h k other inside;
    }
