-- What the two parts of a node mean together, where each may be missing (VariantShredding.md, "Value Shredding" and
-- "Reconstructing a Shredded Variant").
use Rattle.std.specs.Prelude.{ℕ, Bool, false, ◌||◌, if◌then◌else◌, List, [], ◌∷◌, ◌++◌, Option, None, Some, is_some, Result, Ok, Err}
use Rattle.json_tree.specs.Json.{Json, null, Fields, no_fields, field}
use Rattle.json_tree.specs.Json as json
use Rattle.json_tree.specs.Order.{member_of, sorted}
use Rattle.variant_read.specs.Trees.{array_of, object_of}
use Rattle.vs_bytes.specs.Outcome.{◌>>=◌}
use Rattle.vs_bytes.specs.declared.rule.Rule.{Rule}
use Rattle.vs_bytes.specs.declared.rule.Rule.TheVariants.{BothPresent, ElementMissing, FieldInBoth, ObjectWithoutTyped, PartialNotObject}
use Rattle.shred_schema.specs.Groups.{Groups, no_groups}
use Rattle.shred_schema.specs.Groups as node

-- the members of an object, as a list
abbrev pub pairs_of : Fields → List (List ℕ × Json)
pairs_of no_fields = []
pairs_of (field name j fs) = (name, j) ∷ pairs_of fs

-- a typed part is there: a cell or a list stands alone

abbrev pub with_cell : Option Json → Json → Result (Option Json) Rule
with_cell None typed = Ok (Some typed)
with_cell (Some value) typed = Err BothPresent

abbrev pub with_items : Option Json → Result (List Json) Rule → Result (Option Json) Rule
with_items None items = items >>= λ elements. Ok (Some (array_of elements))
with_items (Some value) items = Err BothPresent

-- an object may have further members in its value, of other names than the node's fields

-- some field's name is that of a member
abbrev pub is_in_both : Groups → Fields → Bool
is_in_both no_groups members = false
is_in_both (node.field name n gs) members = is_some (member_of name members) || is_in_both gs members

-- the members that the value of a partial object has
abbrev pub left_over : Groups → Option Json → Result (List (List ℕ × Json)) Rule
left_over gs None = Ok []
left_over gs (Some (json.object members)) = if is_in_both gs members then Err FieldInBoth else Ok (pairs_of members)
left_over gs (Some value) = Err PartialNotObject

abbrev pub with_fields : Groups → Option Json → Result (List (List ℕ × Json)) Rule → Result (Option Json) Rule
with_fields gs value fields =
    left_over gs value >>= λ left.
    fields >>= λ members.
    Ok (Some (object_of (sorted (left ++ members))))

-- no typed part of an object is there: its value isn't an object
abbrev pub without_fields : Option Json → Result (Option Json) Rule
without_fields (Some (json.object members)) = Err ObjectWithoutTyped
without_fields value = Ok value

-- a field that is missing is no member
abbrev pub member : List ℕ → Option Json → List (List ℕ × Json)
member name None = []
member name (Some j) = (name, j) ∷ []

abbrev pub or_null : Option Json → Json
or_null None = null
or_null (Some j) = j

-- an element is there, or null where that isn't tested
abbrev pub element : Bool → Option Json → Result Json Rule
element tested (Some j) = Ok j
element tested None = if tested then Err ElementMissing else Ok null
