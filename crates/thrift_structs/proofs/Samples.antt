-- The metadata of a column chunk, worked out by hand.
use Rattle.std.proofs.Common.{◌≡◌, refl, List, ℕ, [], ◌∷◌, pos, Some, None, codes, ◌++◌}
use Rattle.thrift_compact.specs.Coded.{digits_of, varint_bytes, signed_bytes, binary_bytes, field_bytes, list_bytes, coded, elements_coded, fields_coded}
use Rattle.thrift_structs.specs.Listed.{elements_of}
use Rattle.thrift_structs.specs.ChunkWriting.{stats_fields, column_fields, chunk_fields}
use Rattle.thrift_structs.specs.declared.column_chunks.ChunkMeta.{ChunkMeta}

-- one value `a` and one null of BYTE_ARRAY (6), in a page of 36 bytes after the magic number
abbrev one_chunk : ChunkMeta
one_chunk = record {
  file_path = None;
  file_offset = pos 0;
  meta_data = Some (record {
    kind = pos 6;
    encodings = pos 0 ∷ pos 3 ∷ [];
    path_in_schema = codes "doc" ∷ codes "value" ∷ [];
    codec = pos 0;
    num_values = pos 2;
    total_uncompressed_size = pos 36;
    total_compressed_size = pos 36;
    data_page_offset = pos 4;
    dictionary_page_offset = None;
    statistics = Some (record { nulls = Some 1; least = Some (codes "a"); greatest = Some (codes "a") });
  });
}

-- field 2 after none, an i64; field 3, a struct
abbrev chunk_head : List ℕ
chunk_head = 0x26 ∷ 0x00 ∷ 0x1c ∷ []

-- fields 1 to 4: an i32, a list of two i32, a list of two binaries, an i32
abbrev column_head : List ℕ
column_head = 0x15 ∷ 0x0c ∷ 0x19 ∷ 0x25 ∷ 0x00 ∷ 0x06 ∷ 0x19 ∷ 0x28 ∷ 0x03 ∷ 0x64 ∷ 0x6f ∷ 0x63 ∷ 0x05 ∷ 0x76 ∷ 0x61 ∷ 0x6c ∷ 0x75 ∷ 0x65 ∷ 0x15 ∷ 0x00 ∷ []

-- fields 5, 6, 7 and 9, each an i64
abbrev column_sizes : List ℕ
column_sizes = 0x16 ∷ 0x04 ∷ 0x16 ∷ 0x48 ∷ 0x16 ∷ 0x48 ∷ 0x26 ∷ 0x08 ∷ []

-- field 12, a struct: its field 3, an i64, and its fields 5 and 6, binaries of one byte
abbrev column_stats : List ℕ
column_stats = 0x3c ∷ 0x36 ∷ 0x02 ∷ 0x28 ∷ 0x01 ∷ 0x61 ∷ 0x18 ∷ 0x01 ∷ 0x61 ∷ []

-- the three stops are at the end
pub chunk_written : fields_coded 0 (chunk_fields one_chunk) ≡ chunk_head ++ column_head ++ column_sizes ++ column_stats ++ 0x00 ∷ 0x00 ∷ 0x00 ∷ []
unfolding digits_of varint_bytes signed_bytes binary_bytes field_bytes list_bytes coded elements_coded fields_coded elements_of stats_fields column_fields chunk_fields
chunk_written = refl
