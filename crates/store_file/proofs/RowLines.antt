-- The lines of a query over the rows that are seen where the leaves that it needs are read.
use Rattle.std.proofs.Common.{◌≡◌, ◌∙◌, refl, sym, ap, ℕ, ◌+◌, List, [], ◌∷◌, ◌++◌, Option, Result, Ok, Err, append_assoc}
use Rattle.json_tree.specs.Json.{Json}
use Rattle.query_tree.specs.Asked.{Asked}
use Rattle.path_query.specs.Answer.{answer_of, row_text}
use Rattle.footer_structs.specs.declared.row_groups.GroupMeta.{GroupMeta}
use Rattle.group_reading.specs.declared.group_faults.GroupFault.{GroupFault}
use Rattle.group_lines.specs.Lines.{lines_of}
use Rattle.store_file.specs.Masks.{needed}
use Rattle.store_file.specs.Places.{in_group}
use Rattle.store_file.specs.SeenGroups.{Seen, with_group, seen_of}
use Rattle.store_file.specs.FileCalls.{groups_in, rows_of, group_rows, group_lines, rows_under, lines_seen}
use Rattle.store_file.specs.declared.store_file.StoreFile.{StoreFile}

pub answer_on : (asked : Asked) (rows more : List (Option Json)) → answer_of asked (rows ++ more) ≡ answer_of asked rows ++ answer_of asked more
answer_on asked [] more = refl
answer_on asked (row ∷ rows) more = ap (λ (text : List ℕ). row_text asked row ++ text) (answer_on asked rows more) ∙ sym (append_assoc (row_text asked row) (answer_of asked rows) (answer_of asked more))

-- the answer over the rows
abbrev pub answered : Asked → Seen (Option Json) → Seen ℕ
answered asked s = record { found = answer_of asked s.found; stop = s.stop }

one_group : (asked : Asked) (k : ℕ) (r : Result (List (Option Json)) GroupFault) (later : Seen (Option Json)) → with_group (in_group k (lines_of asked r)) (answered asked later) ≡ answered asked (with_group (in_group k r) later)
one_group asked k (Ok rows) later = ap (λ (text : List ℕ). record { found = text; stop = later.stop }) (sym (answer_on asked rows later.found))
one_group asked k (Err fault) later = refl

lines_from : (f : StoreFile) (asked : Asked) (file : List ℕ) (k : ℕ) (gs : List GroupMeta) → seen_of (group_lines f asked file) k gs ≡ answered asked (seen_of (group_rows f (needed f asked) file) k gs)
unfolding seen_of
lines_from f asked file k [] = refl
lines_from f asked file k (g ∷ gs) =
    ap (with_group (group_lines f asked file k g)) (lines_from f asked file (k + 1) gs)
    ∙ one_group asked k (rows_of f (needed f asked) file g) (seen_of (group_rows f (needed f asked) file) (k + 1) gs)

pub lines_answer : (f : StoreFile) (asked : Asked) (file : List ℕ) → lines_seen f asked file ≡ answered asked (rows_under f (needed f asked) file)
lines_answer f asked file = lines_from f asked file 0 (groups_in f)
