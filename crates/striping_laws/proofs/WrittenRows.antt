-- Rows that are shredded by a schema can be written.
use Rattle.std.proofs.Common.{ℕ, ◌+◌, ◌≤◌, Bool, List, [], ◌∷◌, ◌++◌, length, map, Option, Some, None, arith}
use Rattle.std.specs.List.{AllByRecursion}
use Rattle.json_tree.specs.Json.{Json}
use Rattle.json_tree.specs.Text.{text_of}
use Rattle.json_tree.specs.Valid.{IsValid}
use Rattle.variant_write.specs.Conditions.{IsWidths, max_text_len}
use Rattle.variant_write.specs.Dictionaries.{dictionary}
use Rattle.variant_write.specs.declared.widths.Widths.{Widths}
use Rattle.shred_schema.specs.Groups.{Group}
use Rattle.shred_schema.specs.Lawful.{AllWritten}
use Rattle.shred_schema.specs.Recs.{RowRec}
use Rattle.shred_schema.specs.Shapes.{RowIsOf}
use Rattle.schema_parsing.specs.Grammar.{IsSchema}
use Rattle.schema_parsing.proofs.WrittenNodes.{schema_written}
use Rattle.shredder.specs.Shredded.{by_names, shred_row}
use Rattle.shredding_laws.proofs.SchemaNodes.{schema_is_of}
use Rattle.level_striping.specs.Sizes.{RowIsWithin, RowsAreWithin}
use Rattle.striping_laws.specs.Fitting.{RowFitsLeaves}
use Rattle.striping_laws.specs.Rows.{AreWritten, CanBeRow, text_len, texts_len}
use Rattle.striping_laws.proofs.RecordsFit.{shredded_fits}
use Rattle.striping_laws.proofs.TextSizes.{metadata_within, row_within}

pub row_fits : (widths : Widths) (n : Group) (j : Json) → AllWritten n → IsWidths widths → IsValid j → length (text_of j) ≤ max_text_len → RowFitsLeaves n (shred_row n (Some j) widths)
row_fits widths n j h wide valid short = (omega (arith, short, metadata_within j widths.offset wide.offset_most), shredded_fits (dictionary j) widths n j h wide valid short)

any_row_fits : (optional : Bool) (widths : Widths) (n : Group) (row : Option Json) → AllWritten n → IsWidths widths → CanBeRow optional row → RowFitsLeaves n (shred_row n row widths)
any_row_fits optional widths n None h wide can = tt
any_row_fits optional widths n (Some j) h wide can = row_fits widths n j h wide can.0 can.1

row_is_of : (optional : Bool) (text : List ℕ) (schema : Group) (widths : Widths) (row : Option Json) → IsSchema text schema → CanBeRow optional row → RowIsOf optional schema (shred_row schema row widths)
row_is_of optional text schema widths None is can = can
row_is_of optional text schema widths (Some j) is can = schema_is_of (by_names (dictionary j) widths) text schema j is can.0

-- ---- one row after others

all_more : {A : Type 0} (P : A → Type 0) (xs : List A) (x : A) → AllByRecursion P xs → P x → AllByRecursion P (xs ++ x ∷ [])
all_more P [] x all h = (h, tt)
all_more P (y ∷ ys) x all h = (all.0, all_more P ys x all.1 h)

within_more : (n : Group) (total size : ℕ) (rows : List RowRec) (row : RowRec) → RowsAreWithin n total rows → RowIsWithin n size row → RowsAreWithin n (total + (size + 1)) (rows ++ row ∷ [])
within_more n total size [] row all h = (size, 0, omega arith, h, tt)
within_more n total size (other ∷ rows) row all h = (all.0, all.1 + (size + 1), omega (arith, all.2), all.3, within_more n all.1 size rows row all.4 h)

pub none_written : (optional : Bool) (n : Group) → AreWritten optional n 0 []
none_written optional n = record { of = tt; fit = tt; within = tt }

pub more_written : (optional : Bool) (text : List ℕ) (schema : Group) (widths : Widths) (total : ℕ) (rows : List RowRec) (row : Option Json) → IsSchema text schema → IsWidths widths → CanBeRow optional row → AreWritten optional schema total rows →
    AreWritten optional schema (total + (text_len row + 1)) (rows ++ shred_row schema row widths ∷ [])
more_written optional text schema widths total rows row is wide can all = record {
  of = all_more (RowIsOf optional schema) rows (shred_row schema row widths) all.of (row_is_of optional text schema widths row is can);
  fit = all_more (RowFitsLeaves schema) rows (shred_row schema row widths) all.fit (any_row_fits optional widths schema row (schema_written text schema is) wide can);
  within = within_more schema total (text_len row) rows (shred_row schema row widths) all.within (row_within widths schema row wide);
}

-- ---- all rows

pub all_written : (optional : Bool) (text : List ℕ) (schema : Group) (widths : Widths) (rows : List (Option Json)) → IsSchema text schema → IsWidths widths → AllByRecursion (CanBeRow optional) rows → AreWritten optional schema (texts_len rows) (map (λ row. shred_row schema row widths) rows)
all_written optional text schema widths [] is wide can = none_written optional schema
all_written optional text schema widths (row ∷ rows) is wide can =
    let rest = all_written optional text schema widths rows is wide can.1 in
    record {
      of = (row_is_of optional text schema widths row is can.0, rest.of);
      fit = (any_row_fits optional widths schema row (schema_written text schema is) wide can.0, rest.fit);
      within = (text_len row, texts_len rows, omega arith, row_within widths schema row wide, rest.within);
    }
