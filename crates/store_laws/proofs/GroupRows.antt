-- A group that is written gives its rows.
use Rattle.std.proofs.Common.{◌≡◌, ◌∙◌, sym, ap, subst, ℕ, zero, suc, ◌+◌, ◌<◌, ◌≤◌, Bool, true, List, ◌++◌, length, get_or, Option, Result, Ok, arith}
use Rattle.std.specs.Prelude.{slice_get, IfSome}
use Rattle.std.specs.List.{AllByRecursion, concat}
use Rattle.std.proofs.lemmas.List.{length-map}
use Rattle.json_tree.specs.Json.{Json}
use Rattle.vs_bytes.specs.Numbers.{part}
use Rattle.vs_bytes.specs.Outcome.{◌>>=◌}
use Rattle.vs_bytes.specs.declared.leaf_columns.Entry.{Entry}
use Rattle.vs_bytes.specs.declared.leaf_columns.Leaf.{Leaf}
use Rattle.vs_bytes.specs.declared.rule.Rule.{Rule}
use Rattle.chunks.specs.PageCuts.{chunk_written}
use Rattle.thrift_structs.specs.ChunkRanges.{magic_bytes, max_size, chunk_range}
use Rattle.thrift_structs.specs.declared.column_chunks.ChunkMeta.{ChunkMeta}
use Rattle.group_stats.specs.Accurate.{AreAccurate, null_count}
use Rattle.footer_structs.specs.declared.row_groups.GroupMeta.{GroupMeta}
use Rattle.shred_schema.specs.Groups.{Group, width}
use Rattle.shred_schema.specs.Leaves.{column_leaves}
use Rattle.shred_schema.proofs.NodeFacts.{column_leaf_count}
use Rattle.schema_parsing.specs.Grammar.{IsSchema}
use Rattle.schema_parsing.proofs.WrittenNodes.{schema_written}
use Rattle.shredder.specs.Shredded.{shred_row}
use Rattle.level_striping.specs.Entries.{stripes}
use Rattle.file_columns.specs.declared.columns.FileColumn.{FileColumn}
use Rattle.written_columns.specs.Written.{numbers_from}
use Rattle.striping_laws.specs.Rows.{AreWritten, texts_len, max_texts_len}
use Rattle.striping_laws.proofs.WrittenRows.{all_written}
use Rattle.striping_laws.proofs.WrittenChunks.{chunk_short}
use Rattle.group_writing.specs.GroupChunks.{Path, chunk_meta, chunks_written, chunk_metas}
use Rattle.group_reading.specs.ChunkEntries.{chunk_entries}
use Rattle.group_reading.specs.GroupRows.{group_seen}
use Rattle.store_read.specs.FileGroups.{chunk_seen, no_leaf, leaf_at, chunk_at, rows_in, with_chunk, nth_seen, file_group_seen}
use Rattle.open_group.specs.declared.settings.Settings.{Settings}
use Rattle.open_group.specs.Filling.{records_of}
use Rattle.open_group.specs.OpenGroups.{IsSettings}
use Rattle.store_write.specs.Made.{chunks_of, struct_of}
use Rattle.reading_laws.specs.Documents.{IsDocument}
use Rattle.reading_laws.specs.FullMasks.{ReadsAll}
use Rattle.reading_laws.proofs.WrittenGroups.{schema_well_formed, documents_can_be, group_comes_back, chunk_comes_back}
use Rattle.store_laws.specs.Accuracy.{is_ordered_at, IsAccurateGroup}
use Rattle.store_laws.specs.ValidFiles.{HasRanges}
use Rattle.store_laws.proofs.Readable.{IsReadLeaf, leaf_is_read, range_is}
use Rattle.store_laws.proofs.StandingChunks.{Stands, chunk_stands}

number_at : (k count j : ℕ) → j < count → get_or (numbers_from k count) j 0 ≡ k + j
number_at k zero j inside = absurd (omega (arith, inside))
number_at k (suc count) zero inside = omega arith
number_at k (suc count) (suc j) inside = number_at (k + 1) count j (omega (arith, inside)) ∙ omega arith

-- the column of a file that is read has the leaves that are written, in their order
pub record IsWrittenColumn (n : Group) (column : FileColumn) : Type 0 where
  pub leaves : column.leaves ≡ column_leaves true n
  pub places : column.places ≡ numbers_from 0 (1 + width n)

place_at : (n : Group) (column : FileColumn) (j : ℕ) → IsWrittenColumn n column → j < 1 + width n → get_or column.places j 0 ≡ j
place_at n column j is inside = ap (λ (places : List ℕ). get_or places j 0) is.places ∙ (number_at 0 (1 + width n) j inside ∙ omega arith)

ok_same : (es fs : List Entry) → ◌≡◌ {A = Result (List Entry) Rule} (Ok es) (Ok fs) → es ≡ fs
ok_same es fs e = cc

-- One chunk, of a leaf that is read.
nth_from : (end : ℕ) (column : FileColumn) (group : GroupMeta) (j : ℕ) (file : List ℕ) (low high : ℕ) (leaf : Leaf) (chunk : List ℕ) (es : List Entry) → leaf_at column j ≡ leaf → Stands file low high leaf chunk es (chunk_at column group j) → IsReadLeaf leaf → magic_bytes ≤ low → high ≤ end → length chunk ≤ max_size
    → chunk_entries leaf (length es) (rows_in group) chunk ≡ Ok es → nth_seen end column group j file ≡ Ok es
unfolding nth_seen chunk_seen
nth_from end column group j file low high leaf chunk es own s read first last small given =
    let meta : ChunkMeta = chunk_meta leaf s.path s.at (length chunk) es in
    let range : chunk_range meta leaf end ≡ Ok (s.at, length chunk) = range_is end leaf s.path s.at (length chunk) es read (omega (arith, s.after, first)) (omega (arith, s.before, last)) small in
    ap (λ (found : Option ChunkMeta). with_chunk found (λ one. chunk_seen end (rows_in group) (leaf_at column j) one file)) s.is
    ∙ (ap (λ (l : Leaf). chunk_seen end (rows_in group) l meta file) own
    ∙ (ap (λ (found : Result (ℕ × ℕ) Rule). found >>= λ (at : ℕ × ℕ). chunk_entries leaf (length es) (rows_in group) (part file at.0 at.1)) range
    ∙ (ap (chunk_entries leaf (length es) (rows_in group)) s.bytes ∙ given)))

-- What is known of a group that is written: the rows are documents, few enough, and the chunks stand in the file from a
-- place on, between its magic number and its footer.
pub record IsWrittenGroup (settings : Settings) (n : Group) (rows : List (Option Json)) (paths : List Path) (file : List ℕ) (place end : ℕ) : Type 0 where
  pub each : AllByRecursion (IsDocument true) rows
  pub few : texts_len rows ≤ max_texts_len
  pub ways : length paths ≡ length (column_leaves true n)
  pub front : List ℕ
  pub back : List ℕ
  pub whole : file ≡ front ++ (concat (chunks_of settings n (records_of settings n rows)) ++ back)
  pub at : place ≡ length front
  pub low : magic_bytes ≤ place
  pub high : place + length (concat (chunks_of settings n (records_of settings n rows))) ≤ end

module _ (settings : Settings) (text : List ℕ) (n : Group) (rows : List (Option Json)) (paths : List Path) (column : FileColumn) (file : List ℕ) (place end : ℕ) (chosen : IsSettings settings) (schema : IsSchema text n) (is : IsWrittenColumn n column) (g : IsWrittenGroup settings n rows paths file place end) where
  there : (j : ℕ) → j < 1 + width n → j < length (column_leaves true n)
  there j inside = omega (arith, inside, column_leaf_count true n)

  stands : (j : ℕ) → j < 1 + width n → Stands file place (place + length (concat (chunks_of settings n (records_of settings n rows)))) (get_or (column_leaves true n) j no_leaf)
      (chunk_written (get_or (column_leaves true n) j no_leaf) settings.page_bytes (stripes true n (records_of settings n rows) j)) (stripes true n (records_of settings n rows) j)
      (slice_get (struct_of settings n paths place (records_of settings n rows)).columns j)
  unfolding chunks_written chunk_metas
  stands j inside = chunk_stands settings.page_bytes (stripes true n (records_of settings n rows)) file g.back no_leaf (column_leaves true n) paths 0 place j j g.front g.whole g.at (omega arith) (there j inside) g.ways

  stands_at : (j : ℕ) → j < 1 + width n → Stands file place (place + length (concat (chunks_of settings n (records_of settings n rows)))) (get_or (column_leaves true n) j no_leaf)
      (chunk_written (get_or (column_leaves true n) j no_leaf) settings.page_bytes (stripes true n (records_of settings n rows) j)) (stripes true n (records_of settings n rows) j)
      (chunk_at column (struct_of settings n paths place (records_of settings n rows)) j)
  stands_at j inside =
      subst (λ (i : ℕ). Stands file place (place + length (concat (chunks_of settings n (records_of settings n rows)))) (get_or (column_leaves true n) j no_leaf)
      (chunk_written (get_or (column_leaves true n) j no_leaf) settings.page_bytes (stripes true n (records_of settings n rows) j)) (stripes true n (records_of settings n rows) j)
      (slice_get (struct_of settings n paths place (records_of settings n rows)).columns i)) (sym (place_at n column j is inside)) (stands j inside)

  are : AreWritten true n (texts_len rows) (records_of settings n rows)
  are = all_written true text n settings.widths rows schema chosen.widths (documents_can_be true rows g.each)

  nth_is : (j : ℕ) → j < 1 + width n → nth_seen end column (struct_of settings n paths place (records_of settings n rows)) j file ≡ Ok (stripes true n (records_of settings n rows) j)
  nth_is j inside =
      nth_from end column (struct_of settings n paths place (records_of settings n rows)) j file place (place + length (concat (chunks_of settings n (records_of settings n rows)))) (get_or (column_leaves true n) j no_leaf)
      (chunk_written (get_or (column_leaves true n) j no_leaf) settings.page_bytes (stripes true n (records_of settings n rows) j)) (stripes true n (records_of settings n rows) j)
      (ap (λ (leaves : List Leaf). get_or leaves j no_leaf) is.leaves) (stands_at j inside) (leaf_is_read true n j no_leaf (schema_written text n schema) (there j inside)) g.low g.high
      (omega (arith, chunk_short true n (texts_len rows) (records_of settings n rows) j settings.page_bytes no_leaf are g.few chosen.pages (there j inside)))
      (chunk_comes_back true n (texts_len rows) (records_of settings n rows) j settings.page_bytes no_leaf (schema_well_formed text n schema) are g.few (there j inside))

  pub group_rows : (mask : ℕ → Bool) → ReadsAll mask n → file_group_seen mask true n end column (struct_of settings n paths place (records_of settings n rows)) file ≡ Ok rows
  unfolding file_group_seen
  group_rows mask all =
      let group : GroupMeta = struct_of settings n paths place (records_of settings n rows) in
      let count : rows_in group ≡ length rows = length-map rows (λ row. shred_row n row settings.widths) in
      ap (λ (c : ℕ). group_seen mask true n c (λ j. nth_seen end column group j file)) count
      ∙ group_comes_back mask true text n settings.widths rows (λ j. nth_seen end column group j file) all schema chosen.widths g.each nth_is

  pub group_accurate : IsAccurateGroup n end column file (struct_of settings n paths place (records_of settings n rows))
  group_accurate j inside =
      let group : GroupMeta = struct_of settings n paths place (records_of settings n rows) in
      let s = stands_at j inside in
      subst (λ (found : Option ChunkMeta). IfSome found (λ chunk. IfSome chunk.meta_data (λ meta. IfSome meta.statistics (λ stats. (es : List Entry) → nth_seen end column group j file ≡ Ok es → AreAccurate (leaf_at column j) (is_ordered_at column j) es stats)))) (sym s.is)
      (λ es given. let same : stripes true n (records_of settings n rows) j ≡ es = ok_same (stripes true n (records_of settings n rows) j) es (sym (nth_is j inside) ∙ given) in record { nulls = ap null_count same; least = tt; greatest = tt; enclosed = λ ordered. tt })

  pub group_ranges : HasRanges n end column (struct_of settings n paths place (records_of settings n rows))
  group_ranges j inside =
      let s = stands_at j inside in
      let leaf : Leaf = get_or (column_leaves true n) j no_leaf in
      let chunk : List ℕ = chunk_written leaf settings.page_bytes (stripes true n (records_of settings n rows) j) in
      let own : leaf_at column j ≡ leaf = ap (λ (leaves : List Leaf). get_or leaves j no_leaf) is.leaves in
      record {
        chunk = chunk_meta leaf s.path s.at (length chunk) (stripes true n (records_of settings n rows) j);
        range = (s.at, length chunk);
        there = s.is;
        is_range = ap (λ (l : Leaf). chunk_range (chunk_meta leaf s.path s.at (length chunk) (stripes true n (records_of settings n rows) j)) l end) own
            ∙ range_is end leaf s.path s.at (length chunk) (stripes true n (records_of settings n rows) j) (leaf_is_read true n j no_leaf (schema_written text n schema) (there j inside)) (omega (arith, s.after, g.low)) (omega (arith, s.before, g.high))
            (omega (arith, chunk_short true n (texts_len rows) (records_of settings n rows) j settings.page_bytes no_leaf are g.few chosen.pages (there j inside)));
      }
