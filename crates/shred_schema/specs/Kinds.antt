-- The kinds of cells by physical type and annotation: the two tables of shredded value types (VariantShredding.md,
-- "Shredded Value Types"; LogicalTypes.md). A kind that is added later is a row in each.
use Rattle.std.specs.Prelude.{ℕ, Bool, true, false, cond, if◌then◌else◌, ◌&&◌, ◌==◌, nat_le}
use Rattle.exact_num.specs.Decimal.{max_digits}
use Rattle.vs_bytes.specs.declared.leaf_columns.Phys.{Phys}
use Rattle.vs_bytes.specs.declared.leaf_columns.Phys.TheVariants as phys
use Rattle.vs_bytes.specs.declared.leaf_columns.PrimKind.{PrimKind}
use Rattle.vs_bytes.specs.declared.leaf_columns.PrimKind.TheVariants as prim
use Rattle.vs_bytes.specs.declared.rule.Rule.TheVariants as rule
use Rattle.shred_schema.specs.declared.kinds.Note.{Note}
use Rattle.shred_schema.specs.declared.kinds.Note.TheVariants as note

-- Reading.

-- a kind that isn't read
abbrev pub unread : Phys → PrimKind
unread phys.Float = prim.Refused rule.FloatLeftOut
unread phys.Double = prim.Refused rule.FloatLeftOut
unread type = prim.Refused rule.KindNotRead

-- without an annotation
abbrev pub plain_kind : Phys → PrimKind
plain_kind phys.Boolean = prim.Boolean
plain_kind phys.Int32 = prim.Int32
plain_kind phys.Int64 = prim.Int64
plain_kind type = unread type

abbrev pub text_kind : Phys → PrimKind
text_kind phys.ByteArray = prim.Text
text_kind type = unread type

-- signed integers of so many bits, in a type of 32 bits and in one of 64
abbrev pub narrow_kind : ℕ → PrimKind
narrow_kind bits = if bits == 8 then prim.Int8 else if bits == 16 then prim.Int16 else if bits == 32 then prim.Int32 else prim.Refused rule.KindNotRead

abbrev pub wide_kind : ℕ → PrimKind
wide_kind bits = if bits == 64 then prim.Int64 else prim.Refused rule.KindNotRead

abbrev pub signed_kind : Phys → ℕ → PrimKind
signed_kind phys.Int32 bits = narrow_kind bits
signed_kind phys.Int64 bits = wide_kind bits
signed_kind type bits = unread type

-- a type that can hold unscaled integers
abbrev pub holds_decimals : Phys → Bool
holds_decimals phys.Int32 = true
holds_decimals phys.Int64 = true
holds_decimals phys.ByteArray = true
holds_decimals (phys.Fixed size) = nat_le 1 size && nat_le size 16
holds_decimals type = false

abbrev pub decimal_kind : Phys → ℕ → ℕ → PrimKind
decimal_kind type p s = cond (holds_decimals type && (nat_le p max_digits && nat_le s p)) (prim.Decimal p s) (unread type)

abbrev pub kind_read : Phys → Note → PrimKind
kind_read type note.None = plain_kind type
kind_read type note.Text = text_kind type
kind_read type (note.Decimal p s) = decimal_kind type p s
kind_read type (note.Integer bits signed) = cond signed (signed_kind type bits) (unread type)
kind_read type note.Float16 = prim.Refused rule.FloatLeftOut
kind_read type rest = unread type

-- Writing.

-- the narrowest type for as many digits
abbrev pub decimal_type : ℕ → Phys
decimal_type p = cond (nat_le p 9) phys.Int32 (cond (nat_le p 18) phys.Int64 (phys.Fixed 16))

abbrev pub type_written : PrimKind → Phys
type_written prim.Raw = phys.ByteArray
type_written prim.Boolean = phys.Boolean
type_written prim.Int8 = phys.Int32
type_written prim.Int16 = phys.Int32
type_written prim.Int32 = phys.Int32
type_written prim.Int64 = phys.Int64
type_written (prim.Decimal p s) = decimal_type p
type_written prim.Text = phys.ByteArray
type_written (prim.Refused why) = phys.Other

abbrev pub note_written : PrimKind → Note
note_written prim.Int8 = note.Integer 8 true
note_written prim.Int16 = note.Integer 16 true
note_written (prim.Decimal p s) = note.Decimal p s
note_written prim.Text = note.Text
note_written (prim.Refused why) = note.Other
note_written kind = note.None
