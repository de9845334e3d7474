-- A row group that is written of documents is read back.
use Rattle.std.proofs.Common.{◌≡◌, ◌∙◌, refl, sym, ap, ℕ, ◌+◌, ◌<◌, ◌≤◌, ◌==◌, ◌&&◌, Bool, true, List, [], ◌∷◌, length, get_or, Option, Some, None, Result, Ok, Err, cond, arith}
use Rattle.std.specs.List.{AllByRecursion}
use Rattle.std.proofs.lemmas.Bool.Decides.{nat_tests}
use Rattle.std.proofs.lemmas.List.{length-map}
use Rattle.json_tree.specs.Json.{Json}
use Rattle.vs_bytes.specs.Outcome.{◌>>=◌}
use Rattle.vs_bytes.specs.declared.leaf_columns.Entry.{Entry}
use Rattle.vs_bytes.specs.declared.leaf_columns.Leaf.{Leaf}
use Rattle.vs_bytes.specs.declared.rule.Rule.{Rule}
use Rattle.vs_bytes.specs.declared.rule.Rule.TheVariants as rule
use Rattle.variant_write.specs.Conditions.{IsWidths}
use Rattle.variant_write.specs.declared.widths.Widths.{Widths}
use Rattle.chunks.specs.PageCuts.{chunk_written}
use Rattle.chunks.specs.Turns.{standing, entries_of}
use Rattle.chunks.proofs.ChunkBack.{chunk_back}
use Rattle.shred_schema.specs.Groups.{Group, width}
use Rattle.shred_schema.specs.Lawful.{AllWritten, IsWellFormed}
use Rattle.shred_schema.specs.Leaves.{column_leaves}
use Rattle.shred_schema.specs.Ranges.{every}
use Rattle.shred_schema.specs.Recs.{RowRec}
use Rattle.shred_schema.specs.Shapes.{RowIsOf}
use Rattle.shred_schema.proofs.LeafRanges.{among_high}
use Rattle.shred_schema.proofs.NodeFacts.{column_leaf_count, written_are_nodes}
use Rattle.schema_parsing.specs.Grammar.{IsSchema}
use Rattle.schema_parsing.proofs.WrittenNodes.{schema_written}
use Rattle.shredder.specs.Shredded.{shred_row}
use Rattle.shredding_laws.proofs.WholeRows.{row_back, no_row}
use Rattle.unshredder.specs.Rows.{row_of}
use Rattle.level_striping.specs.Entries.{stripes}
use Rattle.striping_laws.specs.Rows.{AreWritten, CanBeRow, texts_len, max_texts_len, BeginWithRow}
use Rattle.striping_laws.proofs.EntryWeights.{low_levels}
use Rattle.striping_laws.proofs.LeafEntries.{leaf_entries}
use Rattle.striping_laws.proofs.RowStarts.{first_begins, rows_begin}
use Rattle.striping_laws.proofs.WrittenChunks.{rows_light}
use Rattle.striping_laws.proofs.WrittenRows.{all_written}
use Rattle.group_reading.specs.ChunkEntries.{row_starts, begins_row, has_rows, with_rows, chunk_entries}
use Rattle.group_reading.specs.GroupRows.{at_place, group_seen}
use Rattle.group_reading.specs.declared.group_faults.PlaceInGroup.TheVariants as place
use Rattle.record_assembly.proofs.Alike.{nodes_have_leaves}
use Rattle.reading_laws.specs.Documents.{IsDocument, shredded_rows}
use Rattle.reading_laws.specs.FullMasks.{ReadsAll}
use Rattle.reading_laws.specs.WrittenChunks.{written_chunk_entries}
use Rattle.reading_laws.proofs.GroupRecords.{group_meant}
use Rattle.reading_laws.specs.RowsMeant.{rows_meant, rows_of}

-- A schema that is written has a well-formed column.

pub schema_well_formed : (text : List ℕ) (schema : Group) → IsSchema text schema → IsWellFormed schema
schema_well_formed text schema is = record {
  nodes = written_are_nodes schema (schema_written text schema is);
  deep = omega (arith, is.shallow);
  few = omega (arith, is.few);
}

-- Documents mean themselves.

pub document_can_be : (optional : Bool) (row : Option Json) → IsDocument optional row → CanBeRow optional row
document_can_be optional None is = is
document_can_be optional (Some j) is = (is.0, is.1)

pub documents_can_be : (optional : Bool) (rows : List (Option Json)) → AllByRecursion (IsDocument optional) rows → AllByRecursion (CanBeRow optional) rows
documents_can_be optional [] all = tt
documents_can_be optional (row ∷ rows) all = (document_can_be optional row all.0, documents_can_be optional rows all.1)

document_back : (optional : Bool) (n : Group) (widths : Widths) (row : Option Json) → AllWritten n → IsWidths widths → IsDocument optional row → row_of n (shred_row n row widths) ≡ Ok row
document_back optional n widths None written wide is = no_row n widths
document_back optional n widths (Some j) written wide is = row_back n j widths written wide is.0 is.2 is.1

documents_meant : (optional : Bool) (n : Group) (widths : Widths) (k : ℕ) (rows : List (Option Json)) → AllWritten n → IsWidths widths → AllByRecursion (IsDocument optional) rows → rows_meant every n k (shredded_rows n widths rows) ≡ Ok rows
unfolding rows_meant
documents_meant optional n widths k [] written wide all = refl
documents_meant optional n widths k (row ∷ rows) written wide all =
    let first : row_of n (shred_row n row widths) ≡ Ok row = document_back optional n widths row written wide all.0 in
    let rest : rows_meant every n (k + 1) (shredded_rows n widths rows) ≡ Ok rows = documents_meant optional n widths (k + 1) rows written wide all.1 in
    λ i. at_place (place.Row k) (first i) >>= λ one. rest i >>= λ later. Ok (one ∷ later)

pub documents_back : (optional : Bool) (n : Group) (widths : Widths) (rows : List (Option Json)) → AllWritten n → IsWidths widths → AllByRecursion (IsDocument optional) rows → rows_of n (shredded_rows n widths rows) ≡ Ok rows
documents_back optional n widths rows written wide all = documents_meant optional n widths 0 rows written wide all

-- A chunk that is written is read back.

begins : (es : List Entry) → BeginWithRow es → begins_row es ≡ true
begins [] h = absurd h
begins (e ∷ es) h = rw h refl

stripes_begin : (optional : Bool) (n : Group) (rows : List RowRec) (j : ℕ) → AllByRecursion (RowIsOf optional n) rows → j < 1 + width n → begins_row (stripes optional n rows j) ≡ true
stripes_begin optional n [] j of inside = refl
stripes_begin optional n (row ∷ rows) j of inside = begins (stripes optional n (row ∷ rows) j) (first_begins optional n (row ∷ rows) j of (omega arith) inside)

same_number : (a b : ℕ) → a ≡ b → (a == b) ≡ true
same_number a b e = grind (arith, nat_tests)

both_pass : (a b : Bool) → a ≡ true → b ≡ true → (a && b) ≡ true
both_pass a b h k = rw (h, k) refl

stripes_have_rows : (optional : Bool) (n : Group) (rows : List RowRec) (j : ℕ) → AllByRecursion (RowIsOf optional n) rows → j < 1 + width n → has_rows (length rows) (stripes optional n rows j) ≡ true
stripes_have_rows optional n rows j of inside =
    both_pass (begins_row (stripes optional n rows j)) (row_starts (stripes optional n rows j) == length rows) (stripes_begin optional n rows j of inside) (same_number (row_starts (stripes optional n rows j)) (length rows) (rows_begin optional n rows j of inside))

with_its_rows : (rows : ℕ) (es : List Entry) → has_rows rows es ≡ true → with_rows rows es ≡ Ok es
with_its_rows rows es h = ap (λ b. cond b (Ok es) (Err rule.RowCount)) h

pub chunk_comes_back : (optional : Bool) (n : Group) (total : ℕ) (records : List RowRec) (j page_bytes : ℕ) (other : Leaf) → IsWellFormed n → AreWritten optional n total records → total ≤ max_texts_len → j < length (column_leaves optional n)
    → chunk_entries (get_or (column_leaves optional n) j other) (length (stripes optional n records j)) (length records) (chunk_written (get_or (column_leaves optional n) j other) page_bytes (stripes optional n records j)) ≡ Ok (stripes optional n records j)
unfolding chunk_entries
chunk_comes_back optional n total records j page_bytes other well are few there =
    let leaf = get_or (column_leaves optional n) j other in
    let es = stripes optional n records j in
    let low = low_levels optional n j other well there in
    let light = rows_light optional n total records j other are there in
    let inside : j < 1 + width n = omega (arith, there, column_leaf_count optional n) in
    let read : entries_of (standing leaf (Some (length es)) (chunk_written leaf page_bytes es)) ≡ Ok es =
    chunk_back leaf (omega (arith, low.0)) (omega (arith, low.1)) page_bytes es (omega (arith, light, few)) (leaf_entries optional n records j other are.of are.fit there) in
    ap (λ (found : Result (List Entry) Rule). found >>= with_rows (length records)) read ∙ with_its_rows (length records) es (stripes_have_rows optional n records j are.of inside)

-- A group of documents is read back.

pub group_comes_back : (mask : ℕ → Bool) (optional : Bool) (text : List ℕ) (schema : Group) (widths : Widths) (rows : List (Option Json)) (chunk : ℕ → Result (List Entry) Rule) → ReadsAll mask schema → IsSchema text schema → IsWidths widths → AllByRecursion (IsDocument optional) rows
    → ((j : ℕ) → j < 1 + width schema → chunk j ≡ Ok (stripes optional schema (shredded_rows schema widths rows) j)) → group_seen mask optional schema (length rows) chunk ≡ Ok rows
group_comes_back mask optional text schema widths rows chunk all is wide each given =
    let are = all_written optional text schema widths rows is wide (documents_can_be optional rows each) in
    let count : length (shredded_rows schema widths rows) ≡ length rows = length-map rows (λ row. shred_row schema row widths) in
    let meant : group_seen mask optional schema (length (shredded_rows schema widths rows)) chunk ≡ rows_of schema (shredded_rows schema widths rows) =
    group_meant mask optional schema (shredded_rows schema widths rows) all (nodes_have_leaves schema (schema_well_formed text schema is).nodes) are.of chunk (λ j a. given j (omega (arith, among_high j 0 (1 + width schema) a))) in
    ap (λ (n : ℕ). group_seen mask optional schema n chunk) (sym count) ∙ (meant ∙ documents_back optional schema widths rows (schema_written text schema is) wide each)

pub chunks_come_back : (mask : ℕ → Bool) (optional : Bool) (text : List ℕ) (schema : Group) (widths : Widths) (rows : List (Option Json)) (page_bytes : ℕ) (other : Leaf) → ReadsAll mask schema → IsSchema text schema → IsWidths widths → AllByRecursion (IsDocument optional) rows → texts_len rows ≤ max_texts_len
    → group_seen mask optional schema (length rows) (λ j. written_chunk_entries optional schema page_bytes (shredded_rows schema widths rows) other j) ≡ Ok rows
chunks_come_back mask optional text schema widths rows page_bytes other all is wide each few =
    let are = all_written optional text schema widths rows is wide (documents_can_be optional rows each) in
    group_comes_back mask optional text schema widths rows (λ j. written_chunk_entries optional schema page_bytes (shredded_rows schema widths rows) other j) all is wide each
    (λ j inside. chunk_comes_back optional schema (texts_len rows) (shredded_rows schema widths rows) j page_bytes other (schema_well_formed text schema is) are few (omega (arith, inside, column_leaf_count optional schema)))
