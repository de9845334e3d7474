-- What the views of a value show.
use Rattle.std.specs.Prelude.{◌≡◌, ℕ, List, ⊤}
use Rattle.exact_num.specs.NumberOf.{decimal_of}
use Rattle.json_tree.specs.Json as json
use Rattle.vs_bytes.specs.Numbers.{IsPart}
use Rattle.variant_meta.specs.MetaRefs as metadata
use Rattle.variant_read.specs.Items.{items_held, members_held}
use Rattle.variant_read.specs.Layout.{id_size, offset_size}
use Rattle.variant_read.specs.Trees.{array_of, object_of}
use Rattle.variant_read.specs.declared.views.ArrayView.{ArrayView}
use Rattle.variant_read.specs.declared.views.ObjectView.{ObjectView}
use Rattle.variant_read.specs.declared.views.Scalar.{Scalar}
use Rattle.variant_read.specs.declared.views.Scalar.TheVariants as scalar
use Rattle.variant_read.specs.declared.views.ValueRef.{ValueRef}
use Rattle.variant_read.specs.declared.views.ValueRef.TheVariants.{Null, Bool, Num, Text, Object, Array}

-- the elements of an array, in order
unfoldable pub elements_of : ArrayView → List json.Json
elements_of view = items_held (metadata.names_of view.of.meta) view.of.room view.of.layout.bytes.now

-- the fields of an object, each a name and a value, in the order of the names
unfoldable pub members_of : ObjectView → List (List ℕ × json.Json)
members_of view = members_held (metadata.names_of view.of.meta) view.of.room view.of.layout.bytes.now

abbrev pub json_of : ValueRef → json.Json
json_of Null = json.null
json_of (Bool b) = json.boolean b
json_of (Num n) = json.number (decimal_of n)
json_of (Text text) = json.text text.now
json_of (Object view) = object_of (members_of view)
json_of (Array view) = array_of (elements_of view)

-- the bytes that a view reads: those of the array or object, and what follows it
unfoldable pub array_bytes : ArrayView → List ℕ
array_bytes view = view.of.layout.bytes.now

unfoldable pub object_bytes : ObjectView → List ℕ
object_bytes view = view.of.layout.bytes.now

-- the bytes of the metadata, in which the names lie
unfoldable pub array_metadata : ArrayView → List ℕ
array_metadata view = metadata.bytes_of view.of.meta

unfoldable pub object_metadata : ObjectView → List ℕ
object_metadata view = metadata.bytes_of view.of.meta

-- the bytes of an offset
unfoldable pub array_offset_size : ArrayView → ℕ
array_offset_size view = offset_size view.of.layout.bytes.now

unfoldable pub object_offset_size : ObjectView → ℕ
object_offset_size view = offset_size view.of.layout.bytes.now

-- the bytes of an id
unfoldable pub object_id_size : ObjectView → ℕ
object_id_size view = id_size view.of.layout.bytes.now

-- what a value shows lies in these bytes
abbrev pub LiesIn : ValueRef → List ℕ → Type 0
LiesIn Null bytes = ⊤
LiesIn (Bool b) bytes = ⊤
LiesIn (Num n) bytes = ⊤
LiesIn (Text text) bytes = IsPart text.now bytes
LiesIn (Object view) bytes = IsPart (object_bytes view) bytes
LiesIn (Array view) bytes = IsPart (array_bytes view) bytes

-- the names of what a value holds lie in these bytes of metadata
abbrev pub HasMetadata : ValueRef → List ℕ → Type 0
HasMetadata Null bytes = ⊤
HasMetadata (Bool b) bytes = ⊤
HasMetadata (Num n) bytes = ⊤
HasMetadata (Text text) bytes = ⊤
HasMetadata (Object view) bytes = object_metadata view ≡ bytes
HasMetadata (Array view) bytes = array_metadata view ≡ bytes

-- the same of a value that holds no others

abbrev pub scalar_json : Scalar → json.Json
scalar_json scalar.Null = json.null
scalar_json (scalar.Bool b) = json.boolean b
scalar_json (scalar.Num n) = json.number (decimal_of n)
scalar_json (scalar.Text text) = json.text text.now

abbrev pub ScalarLiesIn : Scalar → List ℕ → Type 0
ScalarLiesIn scalar.Null bytes = ⊤
ScalarLiesIn (scalar.Bool b) bytes = ⊤
ScalarLiesIn (scalar.Num n) bytes = ⊤
ScalarLiesIn (scalar.Text text) bytes = IsPart text.now bytes
