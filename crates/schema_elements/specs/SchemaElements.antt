-- Schema elements (parquet.thrift, SchemaElement).
use Rattle.std.specs.Prelude.{ℤ, Option, Some}
use Rattle.thrift_compact.specs.Trees.{Value, Fields, Shapes, i32s, binaries, structs, unknown, known}
use Rattle.thrift_compact.specs.Slots.{◌>>?◌, put_at, required, optional, i32_in, struct_in, read_by}
use Rattle.thrift_compact.specs.declared.slots.Slot.TheVariants.{Missing}
use Rattle.thrift_structs.specs.Entries.{optional_counted}
use Rattle.schema_elements.specs.FieldValues.{text_in}
use Rattle.schema_elements.specs.LogicalTypes.{logical_shapes, logical_of}
use Rattle.schema_elements.specs.declared.elements.SchemaElement.{SchemaElement}
use Rattle.schema_elements.specs.declared.elements.ElementSlots.{ElementSlots}

unfoldable pub element_shapes : Shapes
element_shapes = known 1 i32s (known 2 i32s (known 3 i32s (known 4 binaries (known 5 i32s (known 6 i32s (known 7 i32s (known 8 i32s (known 10 (structs logical_shapes) unknown))))))))

abbrev pub element_start : ElementSlots
element_start = record { kind = Missing; type_length = Missing; repetition_type = Missing; name = Missing; num_children = Missing; converted_type = Missing; scale = Missing; precision = Missing; logical_type = Missing }

unfoldable pub element_put : ElementSlots → ℤ → Value → ElementSlots
element_put d id v = record {
  kind = put_at 1 i32_in id v d.kind;
  type_length = put_at 2 i32_in id v d.type_length;
  repetition_type = put_at 3 i32_in id v d.repetition_type;
  name = put_at 4 text_in id v d.name;
  num_children = put_at 5 i32_in id v d.num_children;
  converted_type = put_at 6 i32_in id v d.converted_type;
  scale = put_at 7 i32_in id v d.scale;
  precision = put_at 8 i32_in id v d.precision;
  logical_type = put_at 10 (struct_in logical_of) id v d.logical_type;
}

unfoldable pub element_finish : ElementSlots → Option SchemaElement
element_finish d =
    optional d.kind >>? λ j.
    optional d.type_length >>? λ k.
    optional d.repetition_type >>? λ m.
    required d.name >>? λ n.
    optional_counted d.num_children >>? λ p.
    optional d.converted_type >>? λ q.
    optional d.scale >>? λ r.
    optional d.precision >>? λ t.
    optional d.logical_type >>? λ u.
    Some (record { kind = j; type_length = k; repetition_type = m; name = n; num_children = p; converted_type = q; scale = r; precision = t; logical_type = u })

abbrev pub element_of : Fields → Option SchemaElement
element_of = read_by element_put element_start element_finish
