-- Where a mask reads the leaves that a query needs, the query prints of what is seen of a row record what it prints of
-- the row.
use Rattle.std.proofs.Common.{◌≡◌, ◌∙◌, sym, ap, ℕ, Bool, Option, Some, None, Ok}
use Rattle.json_tree.specs.Json.{Json}
use Rattle.query_tree.specs.Asked.{Asked}
use Rattle.path_query.specs.Answer.{row_text}
use Rattle.shred_schema.specs.Groups.{Group}
use Rattle.shred_schema.specs.Lawful.{IsWellFormed}
use Rattle.shred_schema.specs.Recs.{RowRec, absent, present}
use Rattle.unshredder.specs.Merging.{or_null}
use Rattle.unshredder.specs.Rows.{row_seen, row_of}
use Rattle.chunk_pruning.specs.Needs.{ReadsNeeded}
use Rattle.pruning_laws.specs.Kept.{KeepsRow}
use Rattle.pruning_laws.proofs.KeepsAnswers.{row_keeps}
use Rattle.pruning_laws.proofs.RowsStay.{row_stays, absent_shown, absent_row}

pub row_kept : (asked : Asked) (mask : ℕ → Bool) (n : Group) (row : RowRec) (found : Option Json) → ReadsNeeded asked n mask → IsWellFormed n → row_of n row ≡ Ok found
    → KeepsRow asked (row_seen mask n row) found
row_kept asked mask n absent found needed well h = record { shown = None; is_shown = absent_shown mask n; text = ap (row_text asked) (sym (absent_row n found h)) }
row_kept asked mask n (present meta x) found needed well h =
    let stays = row_stays mask n meta x found h in
    record {
      shown = Some (or_null stays.shown);
      is_shown = stays.is_row;
      text = row_keeps asked mask stays.names n x stays.shown stays.whole needed well.nodes stays.is_shown stays.is_whole ∙ ap (row_text asked) (sym stays.row_is);
    }
