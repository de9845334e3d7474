-- What groups have in a footer takes no more bytes than the footer.
use Rattle.std.proofs.Common.{◌≡◌, ℕ, ◌+◌, ◌≤◌, List, [], ◌∷◌, ◌++◌, length, ℤ, pos, ap, refl, arith}
use Rattle.std.specs.List.{flat_map}
use Rattle.std.proofs.lemmas.List.{length-append}
use Rattle.std.specs.Prelude.{unsigned_abs}
use Rattle.thrift_compact.specs.Trees.{Value, Fields, no_fields, with_field, i32_value, i64_value}
use Rattle.thrift_compact.specs.Coded.{coded, fields_coded, list_bytes, field_bytes, kind_of}
use Rattle.thrift_structs.specs.Listed.{list_tree}
use Rattle.schema_elements.specs.ElementWriting.{element_tree}
use Rattle.thrift_structs.proofs.Listed.{list_joined}
use Rattle.thrift_structs.specs.ChunkWriting.{chunk_fields}
use Rattle.thrift_structs.specs.declared.column_chunks.ChunkMeta.{ChunkMeta}
use Rattle.footer_structs.specs.FooterWriting.{chunk_tree, group_tree, group_fields, front_fields, back_fields, file_fields, footer_bytes, group_bytes}
use Rattle.footer_structs.specs.declared.row_groups.GroupMeta.{GroupMeta}
use Rattle.footer_structs.specs.declared.file_metadata.FileMeta.{FileMeta}

-- a struct has a byte at least, the stop
fields_some : (last : ℕ) (fs : Fields) → 1 ≤ length (fields_coded last fs)
unfolding fields_coded
fields_some last no_fields = omega arith
fields_some last (with_field id v fs) =
    omega (arith, fields_some (unsigned_abs id) fs, length-append (field_bytes last (unsigned_abs id) (kind_of v)) (coded v ++ fields_coded (unsigned_abs id) fs), length-append (coded v) (fields_coded (unsigned_abs id) fs))

-- a value takes no more than its struct, and neither do the fields after it
value_within : (last : ℕ) (id : ℤ) (v : Value) (fs : Fields) → length (coded v) + length (fields_coded (unsigned_abs id) fs) ≤ length (fields_coded last (with_field id v fs))
unfolding fields_coded
value_within last id v fs =
    omega (arith, length-append (field_bytes last (unsigned_abs id) (kind_of v)) (coded v ++ fields_coded (unsigned_abs id) fs), length-append (coded v) (fields_coded (unsigned_abs id) fs))

list_more : {A : Type 0} (tree : A → Value) (xs : List A) → length (flat_map (λ x. coded (tree x)) xs) ≤ length (coded (list_tree 12 tree xs))
list_more tree xs =
    omega (arith, ap length (list_joined tree 12 xs []), length-append (list_bytes 12 (length xs)) (flat_map (λ x. coded (tree x)) xs))

chunk_some : (c : ChunkMeta) → 1 ≤ length (coded (chunk_tree c))
unfolding coded
chunk_some c = fields_some 0 (chunk_fields c)

-- each element of a list of chunks has a byte
chunks_some : (cs : List ChunkMeta) → length cs ≤ length (flat_map (λ c. coded (chunk_tree c)) cs)
chunks_some [] = omega arith
chunks_some (c ∷ cs) = omega (arith, chunk_some c, chunks_some cs, length-append (coded (chunk_tree c)) (flat_map (λ x. coded (chunk_tree x)) cs))

-- a group has more bytes than chunks
pub group_more : (g : GroupMeta) → length g.columns + 1 ≤ length (group_bytes g)
unfolding group_fields
group_more g =
    let rest : Fields = with_field (pos 2) (i64_value g.total_byte_size) (with_field (pos 3) (i64_value g.num_rows) no_fields) in
    omega (arith, chunks_some g.columns, list_more chunk_tree g.columns, value_within 0 (pos 1) (list_tree 12 chunk_tree g.columns) rest, fields_some 1 rest)

-- no groups have fewer bytes than there are
pub groups_some : (gs : List GroupMeta) → length gs ≤ length (flat_map group_bytes gs)
groups_some [] = omega arith
groups_some (g ∷ gs) = omega (arith, group_more g, groups_some gs, length-append (group_bytes g) (flat_map group_bytes gs))

group_is : (gs : List GroupMeta) → flat_map (λ g. coded (group_tree g)) gs ≡ flat_map group_bytes gs
unfolding coded
group_is gs = refl

-- the footer has all bytes of its groups
pub groups_within : (m : FileMeta) → length (flat_map group_bytes m.row_groups) ≤ length (footer_bytes m)
unfolding file_fields front_fields
groups_within m =
    let groups : Value = list_tree 12 group_tree m.row_groups in
    let fourth : Fields = with_field (pos 4) groups (back_fields m) in
    let third : Fields = with_field (pos 3) (i64_value m.num_rows) fourth in
    let second : Fields = with_field (pos 2) (list_tree 12 element_tree m.schema) third in
    omega (
      arith,
      ap length (group_is m.row_groups),
      list_more group_tree m.row_groups,
      value_within 3 (pos 4) groups (back_fields m),
      value_within 2 (pos 3) (i64_value m.num_rows) fourth,
      value_within 1 (pos 2) (list_tree 12 element_tree m.schema) third,
      value_within 0 (pos 1) (i32_value m.version) second,
    )
