-- A mask that reads each leaf leaves all of a row, and sees all of it.
use Rattle.std.proofs.Common.{◌≡◌, ◌∙◌, refl, ap₂, ℕ, Bool, List, [], ◌∷◌, map}
use Rattle.std.specs.List.{AllByRecursion}
use Rattle.shred_schema.specs.Groups.{Group}
use Rattle.shred_schema.specs.Lawful.{HasLeaves}
use Rattle.shred_schema.specs.Ranges.{every}
use Rattle.shred_schema.specs.Recs.{RowRec}
use Rattle.shred_schema.specs.Shapes.{RowIsOf}
use Rattle.record_assembly.specs.Shown.{row_shown}
use Rattle.record_assembly.proofs.Alike.{row_whole}
use Rattle.unshredder.specs.Rows.{row_seen, row_of}
use Rattle.reading_laws.specs.FullMasks.{ReadsAll}
use Rattle.reading_laws.proofs.SameMasks.{row_shown_same, row_seen_same}

pub all_shown : (mask : ℕ → Bool) (optional : Bool) (n : Group) (row : RowRec) → ReadsAll mask n → HasLeaves n → RowIsOf optional n row → row_shown n mask row ≡ row
all_shown mask optional n row all leaves of = row_shown_same mask every n row all ∙ row_whole optional n row leaves of

pub all_seen : (mask : ℕ → Bool) (n : Group) (row : RowRec) → ReadsAll mask n → row_seen mask n row ≡ row_of n row
all_seen mask n row all = row_seen_same mask every n row all

pub rows_shown : (mask : ℕ → Bool) (optional : Bool) (n : Group) (rows : List RowRec) → ReadsAll mask n → HasLeaves n → AllByRecursion (RowIsOf optional n) rows → map (row_shown n mask) rows ≡ rows
rows_shown mask optional n [] all leaves of = refl
rows_shown mask optional n (row ∷ rows) all leaves of = ap₂ (λ x xs. x ∷ xs) (all_shown mask optional n row all leaves of.0) (rows_shown mask optional n rows all leaves of.1)
