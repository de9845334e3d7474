-- The footer of a file without groups isn't too long.
use Rattle.std.proofs.Common.{◌≡◌, ℕ, zero, suc, ◌+◌, ◌-◌, ◌*◌, ◌/◌, ◌%◌, ◌≤◌, Bool, true, false, cond, ◌&&◌, List, [], ◌∷◌, ◌++◌, length, Option, Some, None, arith}
use Rattle.std.specs.Prelude.{ℤ, pos, nat_lt, nat_le, unsigned_abs}
use Rattle.std.specs.Ordering.{int_eq}
use Rattle.std.proofs.lemmas.List.{length-append, length-map}
use Rattle.vs_bytes.specs.declared.leaf_columns.PrimKind.{PrimKind}
use Rattle.vs_bytes.specs.declared.leaf_columns.PrimKind.TheVariants as prim
use Rattle.thrift_compact.specs.Trees.{Value, Elements, Fields, other, bool_value, i8_value, i32_value, i64_value, binary_value, list_value, struct_value, no_elements, with_element, no_fields, with_field}
use Rattle.thrift_compact.specs.Coded.{digits_of, varint_bytes, zigzag, signed_bytes, binary_bytes, field_bytes, list_bytes, kind_of, how_many, coded, elements_coded, fields_coded, maybe}
use Rattle.thrift_structs.specs.Listed.{elements_of}
use Rattle.schema_elements.specs.ElementWriting.{is_decimal, is_time, is_integer, is_variant, decimal_fields, unit_fields, unit_value, time_fields, integer_fields, variant_fields, inside_fields, logical_fields, logical_tree, type_fields, element_fields, element_tree}
use Rattle.schema_elements.specs.FieldValues.{small_value, flag_value}
use Rattle.schema_elements.specs.declared.logical_types.Logical.{Logical}
use Rattle.schema_elements.specs.declared.elements.SchemaElement.{SchemaElement}
use Rattle.footer_structs.specs.FooterWriting.{order_fields, order_tree, front_fields, back_fields, file_fields, footer_bytes}
use Rattle.shred_schema.specs.Groups.{Group, group, Kind, free, scalar, object_of, list_of, Groups, no_groups, field}
use Rattle.shred_schema.specs.Lawful.{HasValue, IsWritten, AllWritten, EachIn, EachField}
use Rattle.shred_schema.specs.declared.nodes.Slot.{Slot}
use Rattle.shred_schema.specs.declared.nodes.Slot.TheVariants.{Absent, Required, Optional}
use Rattle.schema_parsing.specs.Canonical.{name_text, schema_text, prim_text, kind_text, fields_text, more_text}
use Rattle.schema_parsing.specs.Grammar.{IsSchema}
use Rattle.schema_parsing.proofs.Canonical.{canonical_is_schema}
use Rattle.schema_parsing.proofs.WrittenNodes.{schema_written}
use Rattle.written_columns.specs.Written.{leaf_element, group_element, root_element, column_element, value_elements, member_elements, typed_elements, field_elements}
use Rattle.written_columns.proofs.Ways.{paths_counted}
use Rattle.footer_structs.specs.FileEnds.{footer_limit}
use Rattle.closed_groups.specs.ClosedGroups.{file_meta}
use Rattle.store_write.specs.Made.{column_name, schema_of, paths_of, orders_of}
use Rattle.reading_laws.proofs.WrittenGroups.{schema_well_formed}
use Rattle.store_laws.proofs.NodeNames.{name_within}

-- How many bytes a value may have.

abbrev mutual
  most : Value → ℕ
  most other = 0
  most (bool_value truth) = 0
  most (i8_value z) = 1
  most (i32_value z) = 10
  most (i64_value z) = 10
  most (binary_value bytes) = 10 + length bytes
  most (list_value kind vs) = 11 + elements_most vs
  most (struct_value fs) = fields_most fs

  elements_most : Elements → ℕ
  elements_most no_elements = 0
  elements_most (with_element v vs) = most v + elements_most vs

  fields_most : Fields → ℕ
  fields_most no_fields = 1
  fields_most (with_field id v fs) = 11 + (most v + fields_most fs)

digits_len : (room n : ℕ) → length (digits_of room n) ≤ room
unfolding digits_of
digits_len zero n = omega arith
digits_len (suc room) n = by (nat_lt n 128) (digits_len room (n / 128))
  where
    by : (b : Bool) → length (digits_of room (n / 128)) ≤ room → length (cond b (n ∷ []) ((n % 128 + 128) ∷ digits_of room (n / 128))) ≤ suc room
    by true h = omega arith
    by false h = omega (arith, h)

varint_len : (n : ℕ) → length (varint_bytes n) ≤ 10
unfolding varint_bytes
varint_len n = digits_len 10 n

signed_len : (z : ℤ) → length (signed_bytes z) ≤ 10
unfolding signed_bytes
signed_len z = varint_len (zigzag z)

field_len : (last i kind : ℕ) → length (field_bytes last i kind) ≤ 11
unfolding field_bytes
field_len last i kind = by (nat_lt last i && nat_le i (last + 15))
  where
    by : (b : Bool) → length (cond b (((i - last) * 16 + kind) ∷ []) (kind ∷ signed_bytes (pos i))) ≤ 11
    by true = omega arith
    by false = omega (arith, signed_len (pos i))

list_len : (kind size : ℕ) → length (list_bytes kind size) ≤ 11
unfolding list_bytes
list_len kind size = by (nat_lt size 15)
  where
    by : (b : Bool) → length (cond b ((size * 16 + kind) ∷ []) ((240 + kind) ∷ varint_bytes size)) ≤ 11
    by true = omega arith
    by false = omega (arith, varint_len size)

binary_len : (bytes : List ℕ) → length (binary_bytes bytes) ≤ 10 + length bytes
unfolding binary_bytes
binary_len bytes = omega (arith, length-append (varint_bytes (length bytes)) bytes, varint_len (length bytes))

mutual
  unfolding coded elements_coded fields_coded

  coded_len : (v : Value) → length (coded v) ≤ most v
  coded_len other = omega arith
  coded_len (bool_value truth) = omega arith
  coded_len (i8_value z) = omega arith
  coded_len (i32_value z) = signed_len z
  coded_len (i64_value z) = signed_len z
  coded_len (binary_value bytes) = binary_len bytes
  coded_len (list_value kind vs) = omega (arith, length-append (list_bytes kind (how_many vs)) (elements_coded vs), list_len kind (how_many vs), elements_len vs)
  coded_len (struct_value fs) = fields_len 0 fs

  elements_len : (vs : Elements) → length (elements_coded vs) ≤ elements_most vs
  elements_len no_elements = omega arith
  elements_len (with_element v vs) = omega (arith, length-append (coded v) (elements_coded vs), coded_len v, elements_len vs)

  fields_len : (last : ℕ) (fs : Fields) → length (fields_coded last fs) ≤ fields_most fs
  fields_len last no_fields = omega arith
  fields_len last (with_field id v fs) =
      omega (
        arith,
        length-append (field_bytes last (unsigned_abs id) (kind_of v)) (coded v ++ fields_coded (unsigned_abs id) fs),
        length-append (coded v) (fields_coded (unsigned_abs id) fs),
        field_len last (unsigned_abs id) (kind_of v),
        coded_len v,
        fields_len (unsigned_abs id) fs,
      )

-- Schema elements.

maybe_most : {A : Type 0} (id : ℤ) (tree : A → Value) (o : Option A) (fs : Fields) (c : ℕ) → ((x : A) → most (tree x) ≤ c) → fields_most (maybe id tree o fs) ≤ 11 + c + fields_most fs
maybe_most id tree None fs c h = omega arith
maybe_most id tree (Some x) fs c h = omega (arith, h x)

unit_most : (unit : ℤ) → most (unit_value unit) ≤ 13
unfolding unit_fields
unit_most unit = omega arith

decimal_most : (l : Logical) → fields_most (decimal_fields l) ≤ 60
unfolding decimal_fields
decimal_most l = omega (arith, maybe_most (pos 1) i32_value l.first (maybe (pos 2) i32_value l.second no_fields) 10 (λ x. omega arith), maybe_most (pos 2) i32_value l.second no_fields 10 (λ x. omega arith))

time_most : (l : Logical) → fields_most (time_fields l) ≤ 60
unfolding time_fields
time_most l = omega (arith, maybe_most (pos 1) flag_value l.first (maybe (pos 2) unit_value l.second no_fields) 13 (λ x. omega arith), maybe_most (pos 2) unit_value l.second no_fields 13 unit_most)

integer_most : (l : Logical) → fields_most (integer_fields l) ≤ 60
unfolding integer_fields
integer_most l = omega (arith, maybe_most (pos 1) small_value l.first (maybe (pos 2) flag_value l.second no_fields) 13 (λ x. omega arith), maybe_most (pos 2) flag_value l.second no_fields 13 (λ x. omega arith))

variant_most : (l : Logical) → fields_most (variant_fields l) ≤ 60
unfolding variant_fields
variant_most l = omega (arith, maybe_most (pos 1) small_value l.first no_fields 13 (λ x. omega arith))

chosen_most : (b : Bool) (fs gs : Fields) → fields_most fs ≤ 60 → fields_most gs ≤ 60 → fields_most (cond b fs gs) ≤ 60
chosen_most true fs gs h k = h
chosen_most false fs gs h k = k

inside_most : (l : Logical) → fields_most (inside_fields l) ≤ 60
inside_most l =
    chosen_most (is_decimal l.member) (decimal_fields l) _ (decimal_most l)
    (chosen_most (is_time l.member) (time_fields l) _ (time_most l)
    (chosen_most (is_integer l.member) (integer_fields l) _ (integer_most l)
    (chosen_most (is_variant l.member) (variant_fields l) no_fields (variant_most l) (omega arith))))

logical_most : (l : Logical) → most (logical_tree l) ≤ 72
unfolding logical_fields
logical_most l = by (int_eq l.member (pos 0))
  where
    by : (b : Bool) → fields_most (cond b no_fields (with_field l.member (struct_value (inside_fields l)) no_fields)) ≤ 72
    by true = omega arith
    by false = omega (arith, inside_most l)

element_most : (e : SchemaElement) → most (element_tree e) ≤ 300 + length e.name
unfolding element_fields type_fields
element_most e =
    let tenth : Fields = maybe (pos 10) logical_tree e.logical_type no_fields in
    let eighth : Fields = maybe (pos 8) i32_value e.precision tenth in
    let seventh : Fields = maybe (pos 7) i32_value e.scale eighth in
    let sixth : Fields = maybe (pos 6) i32_value e.converted_type seventh in
    let fifth : Fields = maybe (pos 5) i32_value e.num_children sixth in
    let fourth : Fields = with_field (pos 4) (binary_value e.name) fifth in
    let third : Fields = maybe (pos 3) i32_value e.repetition_type fourth in
    let second : Fields = maybe (pos 2) i32_value e.type_length third in
    omega (
      arith,
      maybe_most (pos 10) logical_tree e.logical_type no_fields 72 logical_most,
      maybe_most (pos 8) i32_value e.precision tenth 10 (λ x. omega arith),
      maybe_most (pos 7) i32_value e.scale eighth 10 (λ x. omega arith),
      maybe_most (pos 6) i32_value e.converted_type seventh 10 (λ x. omega arith),
      maybe_most (pos 5) i32_value e.num_children sixth 10 (λ x. omega arith),
      maybe_most (pos 3) i32_value e.repetition_type fourth 10 (λ x. omega arith),
      maybe_most (pos 2) i32_value e.type_length third 10 (λ x. omega arith),
      maybe_most (pos 1) i32_value e.kind second 10 (λ x. omega arith),
    )

-- All elements, by the canonical text of the schema.

abbrev heavy : List SchemaElement → ℕ
heavy [] = 0
heavy (e ∷ es) = 300 + length e.name + heavy es

heavy_both : (xs ys : List SchemaElement) → heavy (xs ++ ys) ≡ heavy xs + heavy ys
heavy_both [] ys = omega arith
heavy_both (x ∷ xs) ys = omega (arith, heavy_both xs ys)

elements_heavy : (es : List SchemaElement) → elements_most (elements_of element_tree es) ≤ heavy es
unfolding elements_of
elements_heavy [] = omega arith
elements_heavy (e ∷ es) = omega (arith, element_most e, elements_heavy es)

value_heavy : (s : Slot) → heavy (value_elements s) ≤ 305
unfolding leaf_element
value_heavy Absent = omega arith
value_heavy Required = omega arith
value_heavy Optional = omega arith

word_long : (q : PrimKind) → IsWritten q → 4 ≤ length (prim_text q)
word_long prim.Raw h = absurd h
word_long prim.Boolean h = omega arith
word_long prim.Int8 h = omega arith
word_long prim.Int16 h = omega arith
word_long prim.Int32 h = omega arith
word_long prim.Int64 h = omega arith
word_long (prim.Decimal p s) h = omega arith
word_long prim.Text h = omega arith
word_long (prim.Refused why) h = absurd h

mutual
  unfolding leaf_element group_element

  members_heavy : (n : Group) → AllWritten n → heavy (member_elements n) ≤ 700 * length (schema_text n)
  members_heavy (group s t) h = omega (arith, heavy_both (value_elements s) (typed_elements t), value_heavy s, typed_heavy t h.1)

  typed_heavy : (t : Kind) → EachIn HasValue IsWritten t → heavy (typed_elements t) + 305 ≤ 700 * length (kind_text t)
  typed_heavy free h = omega arith
  typed_heavy (scalar q) h = omega (arith, word_long q h)
  typed_heavy (object_of gs) h = omega (arith, fields_heavy gs h.1, length-append (fields_text gs) (125 ∷ []))
  typed_heavy (list_of n) h = omega (arith, members_heavy n h, length-append (schema_text n) (93 ∷ []))

  fields_heavy : (gs : Groups) → EachField HasValue IsWritten gs → heavy (field_elements gs) ≤ 700 * length (fields_text gs)
  fields_heavy no_groups h = omega arith
  fields_heavy (field name n gs) h =
      omega (arith, heavy_both (member_elements n) (field_elements gs), members_heavy n h.0, more_heavy gs h.1, name_within name, length-append (name_text name) (58 ∷ (schema_text n ++ more_text gs)), length-append (schema_text n) (more_text gs))

  more_heavy : (gs : Groups) → EachField HasValue IsWritten gs → heavy (field_elements gs) ≤ 700 * length (more_text gs)
  more_heavy no_groups h = omega arith
  more_heavy (field name n gs) h =
      omega (arith, heavy_both (member_elements n) (field_elements gs), members_heavy n h.0, more_heavy gs h.1, name_within name, length-append (name_text name) (58 ∷ (schema_text n ++ more_text gs)), length-append (schema_text n) (more_text gs))

schema_heavy : (n : Group) → AllWritten n → heavy (schema_of n) ≤ 2000 + 700 * length (schema_text n)
unfolding root_element column_element leaf_element
schema_heavy n h = omega (arith, members_heavy n h)

-- The orders, and the footer.

order_most : (order : ℤ) → most (order_tree order) ≤ 13
unfolding order_fields
order_most order = by (int_eq order (pos 1))
  where
    by : (b : Bool) → fields_most (cond b (with_field (pos 1) (struct_value no_fields) no_fields) no_fields) ≤ 13
    by true = omega arith
    by false = omega arith

orders_most : (orders : List ℤ) → elements_most (elements_of order_tree orders) ≤ 13 * length orders
unfolding elements_of
orders_most [] = omega arith
orders_most (order ∷ orders) = omega (arith, order_most order, orders_most orders)

empty_most : (schema : List SchemaElement) (orders : List ℤ) → fields_most (file_fields (file_meta schema orders [])) ≤ 500 + heavy schema + 13 * length orders
unfolding file_fields front_fields back_fields elements_of
empty_most schema orders = omega (arith, elements_heavy schema, orders_most orders)

pub short_footer : (text : List ℕ) (n : Group) → IsSchema text n → length (footer_bytes (file_meta (schema_of n) (orders_of (paths_of n)) [])) ≤ footer_limit
short_footer text n is =
    let canonical : IsSchema (schema_text n) n = canonical_is_schema text n is in
    omega (
      arith,
      fields_len 0 (file_fields (file_meta (schema_of n) (orders_of (paths_of n)) [])),
      empty_most (schema_of n) (orders_of (paths_of n)),
      schema_heavy n (schema_written text n is),
      canonical.short,
      length-map (paths_of n) (λ path. pos 1),
      paths_counted column_name n,
      (schema_well_formed text n is).few,
    )
