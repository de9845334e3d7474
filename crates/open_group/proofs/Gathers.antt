-- Rows that are gathered, with one more.
use Rattle.std.proofs.Common.{◌≡◌, ◌∙◌, ℕ, ◌+◌, ◌-◌, ◌^◌, ◌<◌, ◌≤◌, min, true, List, [], ◌∷◌, ◌++◌, map, Option, None, Some, Result, Ok, Err, OnOk, OnErr, sym, ap, subst, refl, arith}
use Rattle.json_tree.specs.Json.{Json}
use Rattle.variant_write.specs.Conditions.{IsWidths, max_text_len}
use Rattle.variant_write.specs.declared.widths.Widths.{Widths}
use Rattle.shred_schema.specs.Groups.{Group}
use Rattle.shred_schema.specs.Lawful.{IsWellFormed}
use Rattle.shred_schema.specs.Recs.{RowRec}
use Rattle.shred_schema.specs.Shapes.{RowIsOf}
use Rattle.std.proofs.lemmas.List.{map-append}
use Rattle.vs_bytes.specs.declared.memory.NoMemory.{NoMemory}
use Rattle.shred_schema.specs.Views.{row_rec_of}
use Rattle.shred_schema.specs.declared.records.RowRecord.{RowRecord}
use Rattle.open_group.specs.declared.gathering.Gathered.{Gathered}
use Rattle.shred_schema.proofs.NodeFacts.{written_are_nodes}
use Rattle.schema_parsing.specs.Grammar.{IsSchema}
use Rattle.schema_parsing.proofs.WrittenNodes.{schema_written}
use Rattle.shredder.specs.Shredded.{shred_row}
use Rattle.striping_laws.specs.Rows.{CanBeRow, text_len}
use Rattle.open_group.specs.Filling.{row_count, rows_count, texts_limit}
use Rattle.open_group.specs.OpenGroups.{AreGathered}
use Rattle.striping_laws.proofs.WrittenRows.{none_written, more_written}

pub well_formed : (text : List ℕ) (n : Group) → IsSchema text n → IsWellFormed n
well_formed text n is =
    record { nodes = written_are_nodes n (schema_written text n is); deep = omega (arith, is.shallow); few = omega (arith, is.few) }

-- no rows
pub none_gathered : (n : Group) → AreGathered n [] 0 0
none_gathered n = record { written = none_written true n; few = omega arith; counted = refl }

-- the record of a row is of its column
pub row_is_of : (text : List ℕ) (n : Group) (widths : Widths) (row : Option Json) → IsSchema text n → IsWidths widths → CanBeRow true row → RowIsOf true n (shred_row n row widths)
row_is_of text n widths row is w can = (more_written true text n widths 0 [] row is w can (none_written true n)).of.0

-- a text is no longer than those of documents
pub text_short : (row : Option Json) → CanBeRow true row → text_len row ≤ max_text_len
text_short None can = omega arith
text_short (Some j) can = can.1

count_more : (n : Group) (rows : List RowRec) (row : RowRec) → rows_count n (rows ++ row ∷ []) ≡ rows_count n rows + row_count n row
count_more n [] row = omega arith
count_more n (r ∷ rows) row = omega (arith, count_more n rows row)

-- one more
pub more_gathered : (text : List ℕ) (n : Group) (widths : Widths) (records : List RowRec) (texts entries later : ℕ) (row : Option Json)
    → IsSchema text n → IsWidths widths → CanBeRow true row → texts < texts_limit → AreGathered n records texts entries
    → later ≡ min (entries + row_count n (shred_row n row widths)) (2 ^ 64 - 1)
    → AreGathered n (records ++ shred_row n row widths ∷ []) (texts + (text_len row + 1)) later
more_gathered text n widths records texts entries later row is w can room h e = record {
  written = more_written true text n widths texts records row is w can h.written;
  few = omega (arith, text_short row can);
  counted = omega (arith, e, h.counted, count_more n records (shred_row n row widths));
}

-- what a push leaves, whether it added the record or not
pub after_push : (text : List ℕ) (n : Group) (widths : Widths) (row : Option Json) (made : RowRecord) (len : ℕ) (count : ℕ) (g h : Gathered) (r : Result (Unit {0}) NoMemory)
    → IsSchema text n → IsWidths widths → CanBeRow true row → g.texts < texts_limit → AreGathered n (map row_rec_of g.rows) g.texts g.entries
    → row_rec_of made ≡ shred_row n row widths → len ≡ min (text_len row) (2 ^ 64 - 1) → count ≡ row_count n (row_rec_of made)
    → OnOk r (h.rows ≡ g.rows ++ made ∷ []) → OnOk r (h.texts ≡ g.texts + (len + 1)) → OnOk r (h.entries ≡ min (g.entries + count) (2 ^ 64 - 1)) → OnErr r (h ≡ g)
    → AreGathered n (map row_rec_of h.rows) h.texts h.entries
after_push text n widths row made len count g h (Ok u) is w can room old made_is len_is count_is rows texts entries same =
    let records : map row_rec_of h.rows ≡ map row_rec_of g.rows ++ shred_row n row widths ∷ [] =
    ap (λ (rs : List RowRecord). map row_rec_of rs) rows ∙ map-append row_rec_of g.rows (made ∷ []) ∙ ap (λ (r : RowRec). map row_rec_of g.rows ++ r ∷ []) made_is in
    let sums : h.texts ≡ g.texts + (text_len row + 1) = omega (arith, texts, len_is, text_short row can) in
    let counts : h.entries ≡ min (g.entries + row_count n (shred_row n row widths)) (2 ^ 64 - 1) =
    entries ∙ ap (λ (k : ℕ). min (g.entries + k) (2 ^ 64 - 1)) (count_is ∙ ap (row_count n) made_is) in
    subst (λ (rs : List RowRec). AreGathered n rs h.texts h.entries) (sym records)
    (subst (λ (k : ℕ). AreGathered n (map row_rec_of g.rows ++ shred_row n row widths ∷ []) k h.entries) (sym sums)
    (more_gathered text n widths (map row_rec_of g.rows) g.texts g.entries h.entries row is w can room old counts))
after_push text n widths row made len count g h (Err e) is w can room old made_is len_is count_is rows texts entries same =
    subst (λ (x : Gathered). AreGathered n (map row_rec_of x.rows) x.texts x.entries) (sym same) old
