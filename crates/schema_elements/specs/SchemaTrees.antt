-- Schemas as trees (parquet.thrift, SchemaElement and "FileMetaData.schema"): the elements depth first, each group
-- directly before its children.
use Rattle.std.specs.Prelude.{ℕ, zero, suc, ◌+◌, ◌==◌, Bool, true, false, not, ◌&&◌, ◌||◌, if◌then◌else◌, List, [], ◌∷◌, ℤ, pos, negsuc, Option, Some, None, is_some}
use Rattle.std.specs.Ordering.{int_eq}
use Rattle.schema_elements.specs.declared.elements.SchemaElement.{SchemaElement}

-- a count that may be missing. A negative one, which no reader gives, is 0
abbrev pub count_in : Option ℤ → ℕ
count_in None = 0
count_in (Some (pos n)) = n
count_in (Some (negsuc n)) = 0

-- how many elements stand directly inside
abbrev pub child_count : SchemaElement → ℕ
child_count e = count_in e.num_children

-- a leaf has a type and no children. Any other element is a group
abbrev pub is_leaf : SchemaElement → Bool
is_leaf e = is_some e.kind && (child_count e == 0)

-- so many trees, one after the other
unfoldable pub are_trees : ℕ → List SchemaElement → Bool
are_trees zero [] = true
are_trees zero (e ∷ es) = false
are_trees (suc n) [] = false
are_trees (suc n) (e ∷ es) = are_trees (child_count e + n) es

abbrev pub own_leaf : SchemaElement → ℕ
own_leaf e = if is_leaf e then 1 else 0

unfoldable pub leaf_count : List SchemaElement → ℕ
leaf_count [] = 0
leaf_count (e ∷ es) = own_leaf e + leaf_count es

abbrev pub is_fixed : Option ℤ → Bool
is_fixed None = false
is_fixed (Some type) = int_eq type (pos 7)

abbrev pub is_length : Option ℤ → Bool
is_length None = false
is_length (Some (pos n)) = true
is_length (Some (negsuc n)) = false

-- a leaf of FIXED_LEN_BYTE_ARRAY (7) tells how long its values are
unfoldable pub has_length : SchemaElement → Bool
has_length e = not (is_leaf e && is_fixed e.kind) || is_length e.type_length
