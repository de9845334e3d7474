-- Ranges of column chunks, worked out by hand.
use Rattle.std.proofs.Common.{◌≡◌, refl, ℤ, pos, [], Option, Some, None, Ok, Err}
use Rattle.vs_bytes.specs.declared.leaf_columns.Leaf.{Leaf}
use Rattle.vs_bytes.specs.declared.leaf_columns.Phys.{Phys}
use Rattle.vs_bytes.specs.declared.leaf_columns.Phys.TheVariants as phys
use Rattle.vs_bytes.specs.declared.leaf_columns.PrimKind.{PrimKind}
use Rattle.vs_bytes.specs.declared.leaf_columns.PrimKind.TheVariants as prim
use Rattle.vs_bytes.specs.declared.rule.Rule.TheVariants.{FooterField, KindNotRead, Codec, ChunkTooLarge, ChunkRange}
use Rattle.thrift_structs.specs.ChunkRanges.{is_type, is_inside, pages_range, column_range, chunk_range}
use Rattle.thrift_structs.specs.declared.column_chunks.ColumnMeta.{ColumnMeta}
use Rattle.thrift_structs.specs.declared.column_chunks.ChunkMeta.{ChunkMeta}

abbrev column_of : Phys → PrimKind → Leaf
column_of type kind = record { rep = 0; def = 1; phys = type; prim = kind }

abbrev integers : Leaf
integers = column_of phys.Int64 prim.Int64

-- a chunk by its type, codec, size, the place of its first data page, and that of its dictionary page
abbrev metadata : ℤ → ℤ → ℤ → ℤ → Option ℤ → ColumnMeta
metadata type codec size data_page dictionary_page = record {
  kind = type;
  encodings = [];
  path_in_schema = [];
  codec = codec;
  num_values = pos 1;
  total_uncompressed_size = size;
  total_compressed_size = size;
  data_page_offset = data_page;
  dictionary_page_offset = dictionary_page;
  statistics = None;
}

abbrev chunk : ColumnMeta → ChunkMeta
chunk column = record { file_path = None; file_offset = pos 0; meta_data = Some column }

-- 32 bytes, which begin right after the magic number and end right before the footer
whole_file : chunk_range (chunk (metadata (pos 2) (pos 0) (pos 32) (pos 4) None)) integers 36 ≡ Ok (4, 32)
unfolding is_type is_inside pages_range column_range chunk_range
whole_file = refl

one_byte_more : chunk_range (chunk (metadata (pos 2) (pos 0) (pos 33) (pos 4) None)) integers 36 ≡ Err ChunkRange
unfolding is_type is_inside pages_range column_range chunk_range
one_byte_more = refl

in_the_magic_number : chunk_range (chunk (metadata (pos 2) (pos 0) (pos 32) (pos 3) None)) integers 36 ≡ Err ChunkRange
unfolding is_type is_inside pages_range column_range chunk_range
in_the_magic_number = refl

in_another_file : chunk_range (record { file_path = Some []; file_offset = pos 0; meta_data = Some (metadata (pos 2) (pos 0) (pos 32) (pos 4) None) }) integers 36 ≡ Err ChunkRange
unfolding is_type is_inside pages_range column_range chunk_range
in_another_file = refl

-- a dictionary page counts where it stands before the first data page, and not at 0
dictionary_first : chunk_range (chunk (metadata (pos 2) (pos 0) (pos 32) (pos 9) (Some (pos 4)))) integers 36 ≡ Ok (4, 32)
unfolding is_type is_inside pages_range column_range chunk_range
dictionary_first = refl

no_dictionary : chunk_range (chunk (metadata (pos 2) (pos 0) (pos 32) (pos 4) (Some (pos 0)))) integers 36 ≡ Ok (4, 32)
unfolding is_type is_inside pages_range column_range chunk_range
no_dictionary = refl

dictionary_after : chunk_range (chunk (metadata (pos 2) (pos 0) (pos 32) (pos 4) (Some (pos 4)))) integers 36 ≡ Ok (4, 32)
unfolding is_type is_inside pages_range column_range chunk_range
dictionary_after = refl

-- The rules in their order: each chunk violates all that come after as well.

abbrev bad : ColumnMeta
bad = metadata (pos 1) (pos 1) (pos 1073741825) (pos 0) None

no_metadata : chunk_range (record { file_path = Some []; file_offset = pos 0; meta_data = None }) (column_of phys.Int32 (prim.Refused KindNotRead)) 36 ≡ Err FooterField
unfolding is_type is_inside pages_range column_range chunk_range
no_metadata = refl

another_type : chunk_range (chunk bad) (column_of phys.Int64 (prim.Refused KindNotRead)) 36 ≡ Err FooterField
unfolding is_type is_inside pages_range column_range chunk_range
another_type = refl

refused_kind : chunk_range (chunk bad) (column_of phys.Int32 (prim.Refused KindNotRead)) 36 ≡ Err KindNotRead
unfolding is_type is_inside pages_range column_range chunk_range
refused_kind = refl

compressed : chunk_range (chunk bad) (column_of phys.Int32 prim.Int32) 36 ≡ Err Codec
unfolding is_type is_inside pages_range column_range chunk_range
compressed = refl

too_large : chunk_range (chunk (metadata (pos 2) (pos 0) (pos 1073741825) (pos 0) None)) integers 36 ≡ Err ChunkTooLarge
unfolding is_type is_inside pages_range column_range chunk_range
too_large = refl

largest : chunk_range (chunk (metadata (pos 2) (pos 0) (pos 1073741824) (pos 4) None)) integers 1073741828 ≡ Ok (4, 1073741824)
unfolding is_type is_inside pages_range column_range chunk_range
largest = refl

-- INT96, and a number that parquet.thrift doesn't have, count as one type
other_type : chunk_range (chunk (metadata (pos 3) (pos 0) (pos 32) (pos 4) None)) (column_of phys.Other prim.Raw) 36 ≡ Ok (4, 32)
unfolding is_type is_inside pages_range column_range chunk_range
other_type = refl

unknown_type : chunk_range (chunk (metadata (pos 8) (pos 0) (pos 32) (pos 4) None)) (column_of phys.Other prim.Raw) 36 ≡ Ok (4, 32)
unfolding is_type is_inside pages_range column_range chunk_range
unknown_type = refl
