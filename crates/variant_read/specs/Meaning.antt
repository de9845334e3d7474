-- What the bytes of a Variant value mean, or the first rule that they violate.
use Rattle.std.specs.Prelude.{ℕ, zero, suc, pred, ◌+◌, ◌-◌, ◌==◌, nat_lt, nat_le, not, if◌then◌else◌, List, [], ◌∷◌, length, drop, Option, None, Some, Result, Ok, Err, ⊤}
use Rattle.json_tree.specs.Json.{Json}
use Rattle.vs_bytes.specs.Outcome.{◌>>=◌}
use Rattle.vs_bytes.specs.declared.rule.Rule.{Rule}
use Rattle.vs_bytes.specs.declared.rule.Rule.TheVariants.{ValueShort, ValueTooDeep, FieldId, FieldOrder, Offsets}
use Rattle.variant_meta.specs.Names.{name_at, is_before}
use Rattle.variant_meta.specs.TypeIds.{primitive_type, short_string_type}
use Rattle.variant_read.specs.Layout.{basic_type, is_object, count, field_id, offset, region, container_size}
use Rattle.variant_read.specs.Primitives.{Meaning, Kind, unread_kind, primitive, short_string}
use Rattle.variant_read.specs.Trees.{array_of, object_of}

-- how deep arrays and objects may nest
abbrev pub max_nesting : ℕ
max_nesting = 64

-- The fields of an object. Their ids are places among the names.

unfoldable pub field_name : List (List ℕ) → List ℕ → ℕ → List ℕ
field_name names bytes k = name_at names (field_id bytes k)

-- the rule that the id of field k violates: its name exists, and is greater than that of the field before. An
-- array has no ids
unfoldable pub field_fault : List (List ℕ) → List ℕ → ℕ → Option Rule
field_fault names bytes k =
    if not (is_object bytes) then None
    else if nat_le (length names) (field_id bytes k) then Some FieldId
    else if k == 0 then None
    else if is_before (field_name names bytes (pred k)) (field_name names bytes k) then None
    else Some FieldOrder

-- The items: the values of fields, or elements.

-- `count` items from item k on, each with the rule that its id violates and its offset
unfoldable pub entries_from : List (List ℕ) → List ℕ → ℕ → ℕ → List (Option Rule × ℕ)
entries_from names bytes k zero = []
entries_from names bytes k (suc count) = (field_fault names bytes k, offset bytes k) ∷ entries_from names bytes (suc k) count

unfoldable pub entries : List (List ℕ) → List ℕ → List (Option Rule × ℕ)
entries names bytes = entries_from names bytes 0 (count bytes)

-- goes on where there is no fault
abbrev pub unless_fault : Option Rule → Result ⊤ Rule
unless_fault None = Ok tt
unless_fault (Some rule) = Err rule

-- the items of a region whose earlier items are `used` bytes long together. `value` says what bytes mean inside
-- the array or object. Each item begins at its offset and may go up to the region's end
unfoldable pub items_at : Kind → List ℕ → ℕ → List (Option Rule × ℕ) → Result (List Json) Rule
items_at value region used [] = Ok []
items_at value region used (entry ∷ entries) =
    unless_fault entry.0 >>= λ _.
    if nat_lt (length region) entry.1 then Err Offsets else
    value (drop entry.1 region) >>= λ item.
    if nat_lt (length region) (used + item.1) then Err Offsets else
    items_at value region (used + item.1) entries >>= λ items.
    Ok (item.0 ∷ items)

-- an object's items with their names
unfoldable pub members_from : List (List ℕ) → List ℕ → ℕ → List Json → List (List ℕ × Json)
members_from names bytes k [] = []
members_from names bytes k (item ∷ items) = (field_name names bytes k, item) ∷ members_from names bytes (suc k) items

unfoldable pub with_items : List (List ℕ) → List ℕ → List Json → Json
with_items names bytes items = if is_object bytes then object_of (members_from names bytes 0 items) else array_of items

-- an object or array. `value` says what bytes mean inside it
unfoldable pub container : List (List ℕ) → Kind → Kind
container names value bytes =
    if nat_lt (length bytes) (container_size bytes) then Err ValueShort else
    items_at value (region bytes) 0 (entries names bytes) >>= λ items.
    Ok (with_items names bytes items, container_size bytes)

-- the kind of a basic type. `inside` is that of objects and arrays
unfoldable pub by_basic_type : Kind → ℕ → Kind
by_basic_type inside basic =
    if basic == primitive_type then primitive
    else if basic == short_string_type then short_string
    else inside

unfoldable pub value_of : Kind → Kind
value_of inside bytes = if length bytes == 0 then Err ValueShort else by_basic_type inside (basic_type bytes) bytes

-- the value at the front of bytes, inside which arrays and objects may nest `room` deep
unfoldable pub value_within : List (List ℕ) → ℕ → Kind
value_within names zero bytes = value_of (unread_kind ValueTooDeep) bytes
value_within names (suc room) bytes = value_of (container names (value_within names room)) bytes

-- the value at the front of bytes inside `above` arrays and objects, and how many bytes it has, or the first rule
-- that the bytes violate. The bytes after the value are passed over
unfoldable pub means : List (List ℕ) → List ℕ → ℕ → Meaning
means names bytes above = value_within names (max_nesting - above) bytes

-- the value alone
abbrev pub json_in : Meaning → Result Json Rule
json_in meaning = meaning >>= λ read. Ok read.0

-- how many bytes it has
abbrev pub size_in : Meaning → Result ℕ Rule
size_in meaning = meaning >>= λ read. Ok read.1
