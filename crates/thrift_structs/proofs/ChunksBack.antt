-- The structs of a column chunk that are written read back.
use Rattle.std.proofs.Common.{◌≡◌, ◌∙◌, inl, inr, refl, subst, ℕ, ◌*◌, ◌^◌, ◌<◌, nat_lt, List, [], ◌∷◌, ◌++◌, length, ℤ, pos, Option, None, Some, IfSome, Ok, false, arith}
use Rattle.std.proofs.lemmas.Bool.Decides.{nat_tests}
use Rattle.std.proofs.lemmas.List.Elements.{All-head, All-tail}
use Rattle.std.specs.List.{All}
use Rattle.thrift_compact.specs.Numbers.{mapped}
use Rattle.thrift_compact.specs.Trees.{Value, Fields, Shape, Shapes, i32_value, i64_value, binary_value, no_fields, with_field, i32s, binaries, struct_at, known_at}
use Rattle.thrift_compact.specs.Coded.{zigzag, kind_of, how_many, maybe, fields_coded}
use Rattle.thrift_compact.specs.Fitting.{AllFields, AllElements, Fits, FitsField}
use Rattle.thrift_compact.specs.Slots.{put, filled, i32_in}
use Rattle.thrift_compact.specs.declared.slots.Slot.{Slot}
use Rattle.thrift_compact.specs.declared.slots.Slot.TheVariants.{Missing, Found, Broken}
use Rattle.thrift_compact.proofs.SlotsBack.{not_negative, slot_of, optional_slot, step, maybe_fit}
use Rattle.thrift_compact.proofs.TreesBack.{struct_reads_back}
use Rattle.thrift_structs.specs.Entries.{binary_in, each_in, optional_counted, optional_count}
use Rattle.thrift_structs.specs.Listed.{elements_of}
use Rattle.thrift_structs.specs.ColumnChunks.{stats_shapes, stats_put, stats_finish, stats_of, column_shapes, column_start, column_put, column_finish, column_of, chunk_shapes, chunk_put, chunk_finish, chunk_of}
use Rattle.thrift_structs.specs.ChunkWriting.{count_value, stats_fields, stats_tree, column_fields, column_tree, chunk_fields, IsI64Count, IsI64Size, IsShort, StatsReadBack, ColumnReadsBack, ChunkReadsBack}
use Rattle.thrift_structs.specs.declared.column_chunks.Stats.{Stats}
use Rattle.thrift_structs.specs.declared.column_chunks.StatsSlots.{StatsSlots}
use Rattle.thrift_structs.specs.declared.column_chunks.ColumnMeta.{ColumnMeta}
use Rattle.thrift_structs.specs.declared.column_chunks.ColumnSlots.{ColumnSlots}
use Rattle.thrift_structs.specs.declared.column_chunks.ChunkMeta.{ChunkMeta}
use Rattle.thrift_structs.specs.declared.column_chunks.ChunkSlots.{ChunkSlots}
use Rattle.thrift_structs.proofs.Listed.{size_is}

-- a struct that stands by itself
pub struct_back : {A : Type 0} (ss : Shapes) (read : Fields → Option A) (a : A) (fs : Fields) (rest : List ℕ) → AllFields (FitsField ss) 0 fs → read fs ≡ Some a → mapped read (struct_at (known_at ss) (fields_coded 0 fs ++ rest)) ≡ Ok (Some a, rest)
struct_back ss read a fs rest f e = rw (struct_reads_back ss fs rest f, e) refl

-- Lists.

pub list_again : {A : Type 0} (read : Value → Option A) (tree : A → Value) → ((x : A) → read (tree x) ≡ Some x) → (xs : List A) → each_in read (elements_of tree xs) ≡ Some xs
unfolding each_in elements_of
list_again read tree h [] = refl
list_again read tree h (x ∷ xs) = rw (h x, list_again read tree h xs) refl

pub list_fit : {A : Type 0} (s : Shape) (kind : ℕ) (tree : A → Value) (P : A → Type 0) → ((x : A) → P x → (kind_of (tree x) ≡ kind) × Fits s (tree x)) → (xs : List A) → All P xs → AllElements (Fits s) kind (elements_of tree xs)
unfolding elements_of
list_fit s kind tree P h [] a = tt
list_fit s kind tree P h (x ∷ xs) a =
    let own = h x (All-head P x xs a) in
    (own.0, own.1, list_fit s kind tree P h xs (All-tail P x xs a))

-- a list of fewer than 2 ^ 32 items
small_list : {A : Type 0} (tree : A → Value) (xs : List A) → length xs < 2 ^ 32 → how_many (elements_of tree xs) < 2 ^ 32
small_list tree xs h = rw (size_is tree xs) h

-- Statistics

signed_slot : Slot ℕ → Slot ℤ
signed_slot Missing = Missing
signed_slot (Found n) = Found (pos n)
signed_slot Broken = Broken

count_slot : (x : Option ℕ) → optional_count (signed_slot (slot_of x)) ≡ Some x
unfolding signed_slot
count_slot None = refl
count_slot (Some n) =
    let e : nat_lt n 0 ≡ false = grind (arith, nat_tests) in
    rw e refl

stats_slots : Slot ℤ → Slot (List ℕ) → Slot (List ℕ) → StatsSlots
stats_slots a b c = record { null_count = a; max_value = b; min_value = c }

pub stats_again : (s : Stats) → stats_of (stats_fields s) ≡ Some s
unfolding filled stats_put stats_finish stats_fields stats_slots signed_slot
stats_again s =
    rw (
      step stats_put (λ x. stats_slots (signed_slot x) Missing Missing) (pos 3) count_value s.nulls _ (λ a e. refl),
      step stats_put (λ x. stats_slots (signed_slot (slot_of s.nulls)) x Missing) (pos 5) binary_value s.greatest _ (λ a e. refl),
      step stats_put (λ x. stats_slots (signed_slot (slot_of s.nulls)) (slot_of s.greatest) x) (pos 6) binary_value s.least _ (λ a e. refl),
      count_slot s.nulls,
      optional_slot s.greatest,
      optional_slot s.least,
    ) refl

pub stats_fit : (s : Stats) → StatsReadBack s → AllFields (FitsField stats_shapes) 0 (stats_fields s)
unfolding stats_shapes stats_fields
stats_fit s f =
    let f6 : Fields = maybe (pos 6) binary_value s.least no_fields in
    let f5 : Fields = maybe (pos 5) binary_value s.greatest f6 in
    maybe_fit (FitsField stats_shapes) 0 3 count_value s.nulls f5 (omega arith) (omega arith) (λ a e. inl (refl, count_small a (subst (λ (x : Option ℕ). IfSome x IsI64Count) e f.nulls))) (
    maybe_fit (FitsField stats_shapes) 3 5 binary_value s.greatest f6 (omega arith) (omega arith) (λ a e. inr (refl, inl (refl, subst (λ (x : Option (List ℕ)). IfSome x IsShort) e f.greatest))) (
    maybe_fit (FitsField stats_shapes) 5 6 binary_value s.least no_fields (omega arith) (omega arith) (λ a e. inr (refl, inr (refl, inl (refl, subst (λ (x : Option (List ℕ)). IfSome x IsShort) e f.least)))) tt))
  where
    count_small : (n : ℕ) → n < 2 ^ 63 → 2 * n < 2 ^ 64
    count_small n h = omega (arith, h)

pub stats_read_back : (s : Stats) (rest : List ℕ) → StatsReadBack s → mapped stats_of (struct_at (known_at stats_shapes) (fields_coded 0 (stats_fields s) ++ rest)) ≡ Ok (Some s, rest)
stats_read_back s rest f = struct_back stats_shapes stats_of s (stats_fields s) rest (stats_fit s f) (stats_again s)

-- ColumnMetaData

offset_slot : (x : Option ℤ) → IfSome x IsI64Size → optional_counted (slot_of x) ≡ Some x
offset_slot None f = refl
offset_slot (Some z) f = rw (not_negative z f.0) refl

abbrev column_slots : ColumnMeta → Slot (List ℤ) → Slot (List (List ℕ)) → Slot ℤ → Slot Stats → ColumnSlots
column_slots m a b c d = record {
  kind = Found m.kind;
  encodings = a;
  path_in_schema = b;
  codec = Found m.codec;
  num_values = Found m.num_values;
  total_uncompressed_size = Found m.total_uncompressed_size;
  total_compressed_size = Found m.total_compressed_size;
  data_page_offset = Found m.data_page_offset;
  dictionary_page_offset = c;
  statistics = d;
}

lists_found : (m : ColumnMeta) (fs : Fields) → filled column_put (column_slots m (put Missing (each_in i32_in (elements_of i32_value m.encodings))) (put Missing (each_in binary_in (elements_of binary_value m.path_in_schema))) Missing Missing) fs ≡ filled column_put (column_slots m (Found m.encodings) (Found m.path_in_schema) Missing Missing) fs
lists_found m fs = rw (list_again i32_in i32_value (λ x. refl) m.encodings, list_again binary_in binary_value (λ x. refl) m.path_in_schema) refl

slots_filled : (m : ColumnMeta) → filled column_put column_start (column_fields m) ≡ column_slots m (Found m.encodings) (Found m.path_in_schema) (slot_of m.dictionary_page_offset) (slot_of m.statistics)
unfolding filled column_put column_fields
slots_filled m =
    let f12 : Fields = maybe (pos 12) stats_tree m.statistics no_fields in
    let f11 : Fields = maybe (pos 11) i64_value m.dictionary_page_offset f12 in
    lists_found m f11
    ∙ step column_put (λ x. column_slots m (Found m.encodings) (Found m.path_in_schema) x Missing) (pos 11) i64_value m.dictionary_page_offset f12 (λ a e. refl)
    ∙ step column_put (λ x. column_slots m (Found m.encodings) (Found m.path_in_schema) (slot_of m.dictionary_page_offset) x) (pos 12) stats_tree m.statistics no_fields (λ a e. rw (stats_again a) refl)

pub column_again : (m : ColumnMeta) → ColumnReadsBack m → column_of (column_fields m) ≡ Some m
unfolding column_finish
column_again m f =
    rw (
      slots_filled m,
      not_negative m.num_values f.num_values.0,
      not_negative m.total_uncompressed_size f.total_uncompressed_size.0,
      not_negative m.total_compressed_size f.total_compressed_size.0,
      not_negative m.data_page_offset f.data_page_offset.0,
      offset_slot m.dictionary_page_offset f.dictionary_page_offset,
      optional_slot m.statistics,
    )
    refl

pub column_fit : (m : ColumnMeta) → ColumnReadsBack m → AllFields (FitsField column_shapes) 0 (column_fields m)
unfolding column_shapes column_fields
column_fit m f =
    let f12 : Fields = maybe (pos 12) stats_tree m.statistics no_fields in (
      refl,
      omega arith,
      omega arith,
      inl (refl, f.kind),
      (
        refl,
        omega arith,
        omega arith,
        inr (refl, inl (refl, (refl, small_list i32_value m.encodings f.encodings, list_fit i32s 5 i32_value (λ z. zigzag z < 2 ^ 32) (λ z h. (refl, h)) m.encodings f.encoding))),
        (
          refl,
          omega arith,
          omega arith,
          inr (refl, inr (refl, inl (refl, (refl, small_list binary_value m.path_in_schema f.path_in_schema, list_fit binaries 8 binary_value IsShort (λ bs h. (refl, h)) m.path_in_schema f.name)))),
          (
            refl,
            omega arith,
            omega arith,
            inr (refl, inr (refl, inr (refl, inl (refl, f.codec)))),
            (
              refl,
              omega arith,
              omega arith,
              inr (refl, inr (refl, inr (refl, inr (refl, inl (refl, f.num_values.1))))),
              (
                refl,
                omega arith,
                omega arith,
                inr (refl, inr (refl, inr (refl, inr (refl, inr (refl, inl (refl, f.total_uncompressed_size.1)))))),
                (
                  refl,
                  omega arith,
                  omega arith,
                  inr (refl, inr (refl, inr (refl, inr (refl, inr (refl, inr (refl, inl (refl, f.total_compressed_size.1))))))),
                  (
                    refl,
                    omega arith,
                    omega arith,
                    inr (refl, inr (refl, inr (refl, inr (refl, inr (refl, inr (refl, inr (refl, inl (refl, f.data_page_offset.1)))))))),
                    maybe_fit (FitsField column_shapes) 9 11 i64_value m.dictionary_page_offset f12 (omega arith) (omega arith) (λ a e. inr (refl, inr (refl, inr (refl, inr (refl, inr (refl, inr (refl, inr (refl, inr (refl, inl (refl, offset_small a (subst (λ (x : Option ℤ). IfSome x IsI64Size) e f.dictionary_page_offset))))))))))) (
                        maybe_fit (FitsField column_shapes) 11 12 stats_tree m.statistics no_fields (omega arith) (omega arith) (λ a e. inr (refl, inr (refl, inr (refl, inr (refl, inr (refl, inr (refl, inr (refl, inr (refl, inr (refl, inl (refl, stats_fit a (subst (λ (x : Option Stats). IfSome x StatsReadBack) e f.statistics)))))))))))) tt),
                  ),
                ),
              ),
            ),
          ),
        ),
      ),
    )
  where
    offset_small : (z : ℤ) → IsI64Size z → zigzag z < 2 ^ 64
    offset_small z h = h.1

pub column_read_back : (m : ColumnMeta) (rest : List ℕ) → ColumnReadsBack m → mapped column_of (struct_at (known_at column_shapes) (fields_coded 0 (column_fields m) ++ rest)) ≡ Ok (Some m, rest)
column_read_back m rest f = struct_back column_shapes column_of m (column_fields m) rest (column_fit m f) (column_again m f)

-- ColumnChunk

chunk_slots : Slot (List ℕ) → Slot ℤ → Slot ColumnMeta → ChunkSlots
chunk_slots a b c = record { file_path = a; file_offset = b; meta_data = c }

pub chunk_again : (m : ChunkMeta) → ChunkReadsBack m → chunk_of (chunk_fields m) ≡ Some m
unfolding filled chunk_put chunk_finish chunk_fields chunk_slots
chunk_again m f =
    rw (
      step chunk_put (λ x. chunk_slots x Missing Missing) (pos 1) binary_value m.file_path _ (λ a e. refl),
      step chunk_put (λ x. chunk_slots (slot_of m.file_path) (Found m.file_offset) x) (pos 3) column_tree m.meta_data _ (λ a e. rw (column_again a (subst (λ (x : Option ColumnMeta). IfSome x ColumnReadsBack) e f.meta_data)) refl),
      optional_slot m.file_path,
      not_negative m.file_offset f.file_offset.0,
      optional_slot m.meta_data,
    ) refl

pub chunk_fit : (m : ChunkMeta) → ChunkReadsBack m → AllFields (FitsField chunk_shapes) 0 (chunk_fields m)
unfolding chunk_shapes chunk_fields
chunk_fit m f =
    let f3 : Fields = maybe (pos 3) column_tree m.meta_data no_fields in
    let f2 : Fields = with_field (pos 2) (i64_value m.file_offset) f3 in
    maybe_fit (FitsField chunk_shapes) 0 1 binary_value m.file_path f2 (omega arith) (omega arith) (λ a e. inl (refl, subst (λ (x : Option (List ℕ)). IfSome x IsShort) e f.file_path)) (
      refl,
      omega arith,
      omega arith,
      inr (refl, inl (refl, f.file_offset.1)),
      maybe_fit (FitsField chunk_shapes) 2 3 column_tree m.meta_data no_fields (omega arith) (omega arith) (λ a e. inr (refl, inr (refl, inl (refl, column_fit a (subst (λ (x : Option ColumnMeta). IfSome x ColumnReadsBack) e f.meta_data))))) tt,
    )

pub chunk_read_back : (m : ChunkMeta) (rest : List ℕ) → ChunkReadsBack m → mapped chunk_of (struct_at (known_at chunk_shapes) (fields_coded 0 (chunk_fields m) ++ rest)) ≡ Ok (Some m, rest)
chunk_read_back m rest f = struct_back chunk_shapes chunk_of m (chunk_fields m) rest (chunk_fit m f) (chunk_again m f)
