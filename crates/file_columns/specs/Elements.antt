-- What a schema element says of itself (parquet.thrift, SchemaElement; LogicalTypes.md).
use Rattle.std.specs.Prelude.{ℕ, ℤ, pos, negsuc, nat_lt, Bool, true, false, not, if◌then◌else◌, Option, Some, None}
use Rattle.std.specs.Ordering.{int_eq}
use Rattle.vs_bytes.specs.declared.leaf_columns.Phys.{Phys}
use Rattle.vs_bytes.specs.declared.leaf_columns.Phys.TheVariants as phys
use Rattle.vs_bytes.specs.declared.leaf_columns.PrimKind.{PrimKind}
use Rattle.shred_schema.specs.Kinds.{kind_read}
use Rattle.shred_schema.specs.declared.kinds.Note.{Note}
use Rattle.shred_schema.specs.declared.kinds.Note.TheVariants as note
use Rattle.schema_elements.specs.declared.logical_types.Logical.{Logical}
use Rattle.schema_elements.specs.SchemaTrees.{count_in}
use Rattle.schema_elements.specs.declared.elements.SchemaElement.{SchemaElement}

-- whether a field is there and has this number
abbrev pub is_at : ℕ → Option ℤ → Bool
is_at n None = false
is_at n (Some z) = int_eq z (pos n)

-- The repetition: REQUIRED 0, OPTIONAL 1, REPEATED 2. An element may have none of these.

abbrev pub is_required : SchemaElement → Bool
is_required e = is_at 0 e.repetition_type

abbrev pub is_optional : SchemaElement → Bool
is_optional e = is_at 1 e.repetition_type

abbrev pub is_repeated : SchemaElement → Bool
is_repeated e = is_at 2 e.repetition_type

-- The physical type.

abbrev pub type_numbered : ℕ → ℤ → Phys
type_numbered len z =
    if int_eq z (pos 0) then phys.Boolean else if int_eq z (pos 1) then phys.Int32 else if int_eq z (pos 2) then phys.Int64
    else if int_eq z (pos 4) then phys.Float else if int_eq z (pos 5) then phys.Double else if int_eq z (pos 6) then phys.ByteArray
    else if int_eq z (pos 7) then phys.Fixed len else phys.Other

abbrev pub type_in : ℕ → Option ℤ → Phys
type_in len None = phys.Other
type_in len (Some z) = type_numbered len z

unfoldable pub type_of : SchemaElement → Phys
type_of e = type_in (count_in e.type_length) e.kind

-- The annotation. The logical type decides; where there is none, the converted type does.

abbrev pub byte_in : Option ℤ → Option ℕ
byte_in None = None
byte_in (Some (pos n)) = if nat_lt n 256 then Some n else None
byte_in (Some (negsuc n)) = None

abbrev pub truth_in : Option ℤ → Option Bool
truth_in None = None
truth_in (Some z) = Some (not (int_eq z (pos 0)))

-- each of these needs both of its fields

abbrev pub decimal_note : Option ℕ → Option ℕ → Note
decimal_note (Some p) (Some s) = note.Decimal p s
decimal_note p s = note.Other

abbrev pub integer_note : Option ℕ → Option Bool → Note
integer_note (Some bits) (Some signed) = note.Integer bits signed
integer_note bits signed = note.Other

abbrev pub time_note : Option Bool → Option ℕ → Note
time_note (Some utc) (Some unit) = note.Time utc unit
time_note utc unit = note.Other

abbrev pub stamp_note : Option Bool → Option ℕ → Note
stamp_note (Some utc) (Some unit) = note.Stamp utc unit
stamp_note utc unit = note.Other

-- by the member of the union: STRING 1, LIST 3, DECIMAL 5 with scale and precision, DATE 6, TIME 7, TIMESTAMP 8,
-- INTEGER 10 with its width and its sign, UUID 14, FLOAT16 15
unfoldable pub logical_note : Logical → Note
logical_note l =
    if int_eq l.member (pos 1) then note.Text else if int_eq l.member (pos 3) then note.List
    else if int_eq l.member (pos 5) then decimal_note (byte_in l.second) (byte_in l.first)
    else if int_eq l.member (pos 6) then note.Date
    else if int_eq l.member (pos 7) then time_note (truth_in l.first) (byte_in l.second)
    else if int_eq l.member (pos 8) then stamp_note (truth_in l.first) (byte_in l.second)
    else if int_eq l.member (pos 10) then integer_note (byte_in l.first) (truth_in l.second)
    else if int_eq l.member (pos 14) then note.Uuid else if int_eq l.member (pos 15) then note.Float16 else note.Other

-- UTF8 0, LIST 3, DECIMAL 5 with precision and scale of the element, INT_8 to INT_64 15 to 18
unfoldable pub converted_note : Option ℕ → Option ℕ → ℤ → Note
converted_note precision scale z =
    if int_eq z (pos 0) then note.Text else if int_eq z (pos 3) then note.List
    else if int_eq z (pos 5) then decimal_note precision scale
    else if int_eq z (pos 15) then note.Integer 8 true else if int_eq z (pos 16) then note.Integer 16 true
    else if int_eq z (pos 17) then note.Integer 32 true else if int_eq z (pos 18) then note.Integer 64 true else note.Other

abbrev pub note_in : Option ℕ → Option ℕ → Option Logical → Option ℤ → Note
note_in precision scale (Some l) converted = logical_note l
note_in precision scale None (Some z) = converted_note precision scale z
note_in precision scale None None = note.None

unfoldable pub note_of : SchemaElement → Note
note_of e = note_in (byte_in e.precision) (byte_in e.scale) e.logical_type e.converted_type

-- whether the annotation is LIST
abbrev pub is_list_note : Note → Bool
is_list_note note.List = true
is_list_note rest = false

-- the kind of a leaf's cells
unfoldable pub prim_of : SchemaElement → PrimKind
prim_of e = kind_read (type_of e) (note_of e)
