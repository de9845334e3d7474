-- The structs of a column chunk (parquet.thrift, Statistics, ColumnMetaData, ColumnChunk).
use Rattle.std.specs.Prelude.{ℤ, Option, Some}
use Rattle.thrift_compact.specs.Trees.{Value, Fields, Shapes, i32s, i64s, binaries, lists, structs, unknown, known}
use Rattle.thrift_compact.specs.Slots.{◌>>?◌, put_at, required, optional, counted, i32_in, struct_in, read_by}
use Rattle.thrift_compact.specs.declared.slots.Slot.TheVariants.{Missing}
use Rattle.thrift_structs.specs.Entries.{i64_in, binary_in, list_in, optional_counted, optional_count}
use Rattle.thrift_structs.specs.declared.column_chunks.Stats.{Stats}
use Rattle.thrift_structs.specs.declared.column_chunks.StatsSlots.{StatsSlots}
use Rattle.thrift_structs.specs.declared.column_chunks.ColumnMeta.{ColumnMeta}
use Rattle.thrift_structs.specs.declared.column_chunks.ColumnSlots.{ColumnSlots}
use Rattle.thrift_structs.specs.declared.column_chunks.ChunkMeta.{ChunkMeta}
use Rattle.thrift_structs.specs.declared.column_chunks.ChunkSlots.{ChunkSlots}

-- Statistics

unfoldable pub stats_shapes : Shapes
stats_shapes = known 3 i64s (known 5 binaries (known 6 binaries unknown))

abbrev pub stats_start : StatsSlots
stats_start = record { null_count = Missing; max_value = Missing; min_value = Missing }

unfoldable pub stats_put : StatsSlots → ℤ → Value → StatsSlots
stats_put d id v = record {
  null_count = put_at 3 i64_in id v d.null_count;
  max_value = put_at 5 binary_in id v d.max_value;
  min_value = put_at 6 binary_in id v d.min_value;
}

unfoldable pub stats_finish : StatsSlots → Option Stats
stats_finish d =
    optional_count d.null_count >>? λ j.
    optional d.max_value >>? λ k.
    optional d.min_value >>? λ m.
    Some (record { nulls = j; least = m; greatest = k })

abbrev pub stats_of : Fields → Option Stats
stats_of = read_by stats_put stats_start stats_finish

-- ColumnMetaData

unfoldable pub column_shapes : Shapes
column_shapes = known 1 i32s (known 2 (lists i32s) (known 3 (lists binaries) (known 4 i32s (known 5 i64s (known 6 i64s (known 7 i64s (known 9 i64s (known 11 i64s (known 12 (structs stats_shapes) unknown)))))))))

abbrev pub column_start : ColumnSlots
column_start = record { kind = Missing; encodings = Missing; path_in_schema = Missing; codec = Missing; num_values = Missing; total_uncompressed_size = Missing; total_compressed_size = Missing; data_page_offset = Missing; dictionary_page_offset = Missing; statistics = Missing }

unfoldable pub column_put : ColumnSlots → ℤ → Value → ColumnSlots
column_put d id v = record {
  kind = put_at 1 i32_in id v d.kind;
  encodings = put_at 2 (list_in i32_in) id v d.encodings;
  path_in_schema = put_at 3 (list_in binary_in) id v d.path_in_schema;
  codec = put_at 4 i32_in id v d.codec;
  num_values = put_at 5 i64_in id v d.num_values;
  total_uncompressed_size = put_at 6 i64_in id v d.total_uncompressed_size;
  total_compressed_size = put_at 7 i64_in id v d.total_compressed_size;
  data_page_offset = put_at 9 i64_in id v d.data_page_offset;
  dictionary_page_offset = put_at 11 i64_in id v d.dictionary_page_offset;
  statistics = put_at 12 (struct_in stats_of) id v d.statistics;
}

unfoldable pub column_finish : ColumnSlots → Option ColumnMeta
column_finish d =
    required d.kind >>? λ j.
    required d.encodings >>? λ k.
    required d.path_in_schema >>? λ m.
    required d.codec >>? λ n.
    counted d.num_values >>? λ p.
    counted d.total_uncompressed_size >>? λ q.
    counted d.total_compressed_size >>? λ r.
    counted d.data_page_offset >>? λ t.
    optional_counted d.dictionary_page_offset >>? λ u.
    optional d.statistics >>? λ w.
    Some (record { kind = j; encodings = k; path_in_schema = m; codec = n; num_values = p; total_uncompressed_size = q; total_compressed_size = r; data_page_offset = t; dictionary_page_offset = u; statistics = w })

abbrev pub column_of : Fields → Option ColumnMeta
column_of = read_by column_put column_start column_finish

-- ColumnChunk

unfoldable pub chunk_shapes : Shapes
chunk_shapes = known 1 binaries (known 2 i64s (known 3 (structs column_shapes) unknown))

abbrev pub chunk_start : ChunkSlots
chunk_start = record { file_path = Missing; file_offset = Missing; meta_data = Missing }

unfoldable pub chunk_put : ChunkSlots → ℤ → Value → ChunkSlots
chunk_put d id v = record {
  file_path = put_at 1 binary_in id v d.file_path;
  file_offset = put_at 2 i64_in id v d.file_offset;
  meta_data = put_at 3 (struct_in column_of) id v d.meta_data;
}

unfoldable pub chunk_finish : ChunkSlots → Option ChunkMeta
chunk_finish d =
    optional d.file_path >>? λ j.
    counted d.file_offset >>? λ k.
    optional d.meta_data >>? λ m.
    Some (record { file_path = j; file_offset = k; meta_data = m })

abbrev pub chunk_of : Fields → Option ChunkMeta
chunk_of = read_by chunk_put chunk_start chunk_finish
