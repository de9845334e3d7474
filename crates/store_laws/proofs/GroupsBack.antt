-- The structs of groups that are written read back.
use Rattle.std.proofs.Common.{◌≡◌, ◌∙◌, refl, sym, ap, ℕ, suc, ◌+◌, ◌^◌, ◌<◌, ◌==◌, ◌&&◌, Bool, true, List, [], ◌∷◌, length, arith}
use Rattle.std.specs.Prelude.{pos, is_none}
use Rattle.std.specs.List.{AllByRecursion, concat, list_all}
use Rattle.std.proofs.lemmas.Bool.Decides.{nat_tests}
use Rattle.std.proofs.lemmas.Int.{ints}
use Rattle.std.proofs.lemmas.List.{length-append, length-map}
use Rattle.std.proofs.lemmas.List.Elements.{All-from_recursion}
use Rattle.std.proofs.lemmas.List.Sums.{count_by-le-length}
use Rattle.vs_bytes.specs.declared.leaf_columns.Entry.{Entry}
use Rattle.vs_bytes.specs.declared.leaf_columns.Leaf.{Leaf}
use Rattle.vs_bytes.specs.declared.leaf_columns.Phys.{Phys}
use Rattle.vs_bytes.specs.declared.leaf_columns.Phys.TheVariants as phys
use Rattle.chunks.specs.PageCuts.{chunk_written}
use Rattle.thrift_compact.specs.PageWriting.{IsI32}
use Rattle.thrift_structs.specs.ChunkWriting.{IsI64Size, IsShort, ChunkReadsBack}
use Rattle.footer_structs.specs.FooterWriting.{GroupReadsBack}
use Rattle.footer_structs.specs.ReadFooters.{has_chunks}
use Rattle.shred_schema.specs.Groups.{Group, width}
use Rattle.shred_schema.specs.Lawful.{IsWellFormed}
use Rattle.shred_schema.specs.Leaves.{column_leaves}
use Rattle.shred_schema.proofs.NodeFacts.{column_leaf_count}
use Rattle.shredder.specs.Shredded.{shred_row}
use Rattle.schema_parsing.specs.Grammar.{IsSchema}
use Rattle.level_striping.specs.Entries.{stripes}
use Rattle.striping_laws.specs.Rows.{texts_len}
use Rattle.striping_laws.proofs.WrittenRows.{all_written}
use Rattle.striping_laws.proofs.WrittenChunks.{rows_few as entries_few}
use Rattle.group_writing.specs.GroupChunks.{Path, type_number, chunk_meta, chunks_from, metas_from, chunks_size, chunks_written, chunk_metas}
use Rattle.open_group.specs.declared.settings.Settings.{Settings}
use Rattle.open_group.specs.Filling.{records_of}
use Rattle.open_group.specs.OpenGroups.{IsSettings}
use Rattle.store_write.specs.Made.{paths_of, chunks_of, struct_of, format}
use Rattle.reading_laws.proofs.WrittenGroups.{documents_can_be}
use Rattle.store_laws.proofs.Bodies.{Rows, bytes_of, metas_of}
use Rattle.store_laws.proofs.Cuts.{IsSmall}
use Rattle.store_laws.proofs.Counts.{size_joined, rows_few}
use Rattle.store_laws.proofs.Files.{ways_are}
use Rattle.store_laws.proofs.PathsBack.{IsPath}

pub size_fits : (k : ℕ) → k < 2 ^ 63 → IsI64Size (pos k)
size_fits k h = (omega (arith, ints), omega (arith, h))

type_fits : (t : Phys) → IsI32 (type_number t)
type_fits phys.Boolean = omega arith
type_fits phys.Int32 = omega arith
type_fits phys.Int64 = omega arith
type_fits phys.Float = omega arith
type_fits phys.Double = omega arith
type_fits phys.ByteArray = omega arith
type_fits (phys.Fixed size) = omega arith
type_fits phys.Other = omega arith

chunk_back : (leaf : Leaf) (path : Path) (place size : ℕ) (es : List Entry) → IsPath path → place < 2 ^ 63 → size < 2 ^ 63 → length es < 2 ^ 63 → ChunkReadsBack (chunk_meta leaf path place size es)
chunk_back leaf path place size es is_path low small few = record {
  file_path = tt;
  file_offset = size_fits 0 (omega arith);
  meta_data = record {
    kind = type_fits leaf.phys;
    encodings = omega arith;
    encoding = All-from_recursion IsI32 (pos 0 ∷ pos 3 ∷ []) (omega arith, (omega arith, tt));
    path_in_schema = is_path.size;
    name = All-from_recursion IsShort path is_path.names;
    codec = omega arith;
    num_values = size_fits (length es) few;
    total_uncompressed_size = size_fits size small;
    total_compressed_size = size_fits size small;
    data_page_offset = size_fits place low;
    dictionary_page_offset = tt;
    statistics = record { nulls = omega (arith, few, count_by-le-length (λ (e : Entry). is_none e.value) es); least = tt; greatest = tt };
  };
}

-- the chunks end before a place that an i64 can hold
chunks_back : (page : ℕ) (es : ℕ → List Entry) (j place : ℕ) (ls : List Leaf) (ps : List Path) → ((k : ℕ) → length (es k) < 2 ^ 63) → AllByRecursion IsPath ps → place + length (concat (chunks_from page es j ls)) < 2 ^ 63 → AllByRecursion ChunkReadsBack (metas_from page es j place ls ps)
unfolding metas_from chunks_from
chunks_back page es j place [] ps few ways end = tt
chunks_back page es j place (l ∷ ls) [] few ways end = tt
chunks_back page es j place (l ∷ ls) (p ∷ ps) few ways end =
    let chunk : List ℕ = chunk_written l page (es j) in
    let sum = length-append chunk (concat (chunks_from page es (j + 1) ls)) in
    (chunk_back l p place (length chunk) (es j) ways.0 (omega (arith, end)) (omega (arith, end, sum)) (few j), chunks_back page es (j + 1) (place + length chunk) ls ps few ways.1 (omega (arith, end, sum)))

metas_count : (page : ℕ) (es : ℕ → List Entry) (j place : ℕ) (ls : List Leaf) (ps : List Path) → length ps ≡ length ls → length (metas_from page es j place ls ps) ≡ length ls
unfolding metas_from
metas_count page es j place [] ps same = refl
metas_count page es j place (l ∷ ls) [] same = absurd (omega (arith, same))
metas_count page es j place (l ∷ ls) (p ∷ ps) same = ap suc (metas_count page es (j + 1) (place + length (chunk_written l page (es j))) ls ps (omega (arith, same)))

pub same_number : (a b : ℕ) → a ≡ b → (a == b) ≡ true
same_number a b e = grind (arith, nat_tests)

pub both_pass : (a b : Bool) → a ≡ true → b ≡ true → (a && b) ≡ true
both_pass a b h k = rw (h, k) refl

module _ (settings : Settings) (text : List ℕ) (n : Group) (chosen : IsSettings settings) (schema : IsSchema text n) (well : IsWellFormed n) (ways : AllByRecursion IsPath (paths_of n)) where
  columns_counted : (place : ℕ) (g : Rows) → length (struct_of settings n (paths_of n) place (records_of settings n g)).columns ≡ 1 + width n
  unfolding chunk_metas
  columns_counted place g = metas_count settings.page_bytes (stripes true n (records_of settings n g)) 0 place (column_leaves true n) (paths_of n) (ways_are n) ∙ column_leaf_count true n

  columns_back : (place : ℕ) (g : Rows) → IsSmall g → place + length (concat (chunks_of settings n (records_of settings n g))) < 2 ^ 63 → AllByRecursion ChunkReadsBack (struct_of settings n (paths_of n) place (records_of settings n g)).columns
  unfolding chunk_metas chunks_written
  columns_back place g small end =
      let are = all_written true text n settings.widths g schema chosen.widths (documents_can_be true g small.each) in
      chunks_back settings.page_bytes (stripes true n (records_of settings n g)) 0 place (column_leaves true n) (paths_of n) (λ k. omega (arith, entries_few true n (texts_len g) (records_of settings n g) k are, small.few)) ways end

  group_back : (place : ℕ) (g : Rows) → IsSmall g → place + length (concat (chunks_of settings n (records_of settings n g))) < 2 ^ 63 → GroupReadsBack (struct_of settings n (paths_of n) place (records_of settings n g))
  group_back place g small end = record {
    columns = omega (arith, columns_counted place g, well.few);
    column = All-from_recursion ChunkReadsBack (struct_of settings n (paths_of n) place (records_of settings n g)).columns (columns_back place g small end);
    total_byte_size = size_fits (chunks_size (chunks_of settings n (records_of settings n g))) (omega (arith, end, size_joined (chunks_of settings n (records_of settings n g))));
    num_rows = size_fits (length (records_of settings n g)) (omega (arith, length-map g (λ row. shred_row n row settings.widths), rows_few g, small.few));
  }

  pub groups_back : (gs : List Rows) (place : ℕ) → AllByRecursion IsSmall gs → place + length (bytes_of (format settings n) gs) < 2 ^ 63 → AllByRecursion GroupReadsBack (metas_of (format settings n) place gs)
  groups_back [] place small end = tt
  groups_back (g ∷ gs) place small end =
      let chunks : List ℕ = concat (chunks_of settings n (records_of settings n g)) in
      let sum = length-append chunks (bytes_of (format settings n) gs) in
      (group_back place g small.0 (omega (arith, end, sum)), groups_back gs (place + length chunks) small.1 (omega (arith, end, sum)))

  pub have_chunks : (leaves : ℕ) → leaves ≡ 1 + width n → (gs : List Rows) (place : ℕ) → list_all (has_chunks leaves) (metas_of (format settings n) place gs) ≡ true
  have_chunks leaves is [] place = refl
  have_chunks leaves is (g ∷ gs) place =
      both_pass (length (struct_of settings n (paths_of n) place (records_of settings n g)).columns == leaves) (list_all (has_chunks leaves) (metas_of (format settings n) (place + length (concat (chunks_of settings n (records_of settings n g)))) gs))
      (same_number (length (struct_of settings n (paths_of n) place (records_of settings n g)).columns) leaves (columns_counted place g ∙ sym is))
      (have_chunks leaves is gs (place + length (concat (chunks_of settings n (records_of settings n g)))))
