-- The walk over the leaves of a row group.
use Rattle.std.proofs.Common.{◌≡◌, ◌∙◌, refl, sym, ap, subst, ℕ, suc, ◌+◌, ◌-◌, ◌<◌, ◌≤◌, ◌==◌, Bool, true, false, List, [], ◌∷◌, ◌++◌, length, get_or, Ok, Err, arith}
use Rattle.std.proofs.Math.ListN.{get_or-append}
use Rattle.std.proofs.lemmas.List.{get_or_push}
use Rattle.std.proofs.lemmas.Bool.Decides.{nat_tests}
use Rattle.vs_bytes.specs.declared.leaf_columns.Entry.{Entry}
use Rattle.shelf.specs.Storage.{Storage}
use Rattle.footer_structs.specs.declared.row_groups.GroupMeta.{GroupMeta}
use Rattle.file_columns.specs.declared.columns.FileColumn.{FileColumn}
use Rattle.group_reading.specs.ChunkEntries.{has_rows}
use Rattle.group_reading.specs.GroupRows.{leaf_seen, leaves_seen}
use Rattle.group_reading.specs.declared.group_faults.GroupFault.{GroupFault}
use Rattle.store_read.specs.FileGroups.{nth_seen, leaf_plan, leaves_plan, entries_seen}
use Rattle.store_read.specs.Ranges.{AsksFirst, Gives, ReadsFile}
use Rattle.store_read.specs.declared.read_stop.ReadStop.{ReadStop}
use Rattle.store_read.proofs.Reading.{Walk, one_leaf, walk_begins, walk_goes, walk_part, walk_stops, walk_ends}

-- before leaf j of `count` leaves
abbrev pub GroupWalk : Storage → Storage → List ℕ → (ℕ → Bool) → ℕ → FileColumn → GroupMeta → ℕ → ℕ → List (List Entry) → Type 0
GroupWalk before now name mask end column group count j found =
    Walk before now name
    (leaves_plan mask name end column group 0 count)
    (leaves_plan mask name end column group j (count - j))
    (entries_seen mask end column group 0 count)
    (entries_seen mask end column group j (count - j))
    found

pub leaves_begin : (s : Storage) (name : List ℕ) (mask : ℕ → Bool) (end : ℕ) (column : FileColumn) (group : GroupMeta) (count : ℕ) → GroupWalk s s name mask end column group count 0 []
leaves_begin s name mask end column group count =
    let all : count ≡ count - 0 = omega arith in
    subst (λ left. Walk s s name (leaves_plan mask name end column group 0 count) (leaves_plan mask name end column group 0 left) (entries_seen mask end column group 0 count) (entries_seen mask end column group 0 left) []) all
    (walk_begins s name (leaves_plan mask name end column group 0 count) (entries_seen mask end column group 0 count))

-- leaf j first, and then those after it
leaf_first : (before now : Storage) (name : List ℕ) (mask : ℕ → Bool) (end : ℕ) (column : FileColumn) (group : GroupMeta) (count j : ℕ) (found : List (List Entry)) → GroupWalk before now name mask end column group count j found → j < count →
    Walk before now name
    (leaves_plan mask name end column group 0 count)
    (leaf_plan mask name end column group j ++ leaves_plan mask name end column group (j + 1) (count - (j + 1)))
    (entries_seen mask end column group 0 count)
    (λ file. one_leaf (leaf_seen mask (λ k. nth_seen end column group k file) j) (entries_seen mask end column group (j + 1) (count - (j + 1)) file))
    found
unfolding leaves_plan leaves_seen
leaf_first before now name mask end column group count j found walk more =
    let left : count - j ≡ suc (count - (j + 1)) = omega (arith, more) in
    subst (λ left. Walk before now name (leaves_plan mask name end column group 0 count) (leaves_plan mask name end column group j left) (entries_seen mask end column group 0 count) (entries_seen mask end column group j left) found) left walk

pub leaf_goes : (before now new : Storage) (name : List ℕ) (mask : ℕ → Bool) (end : ℕ) (column : FileColumn) (group : GroupMeta) (count j : ℕ) (found more : List (List Entry)) (entries : List Entry) → GroupWalk before now name mask end column group count j found → j < count →
    Gives now new name (leaf_plan mask name end column group j) (λ file. leaf_seen mask (λ k. nth_seen end column group k file) j ≡ Ok entries) → more ≡ found ++ entries ∷ [] →
    GroupWalk before new name mask end column group count (j + 1) more
leaf_goes before now new name mask end column group count j found more entries walk inside gives is =
    walk_goes before now new name (leaves_plan mask name end column group 0 count) (leaf_plan mask name end column group j) (leaves_plan mask name end column group (j + 1) (count - (j + 1))) (entries_seen mask end column group 0 count)
    (λ (file : List ℕ). one_leaf (leaf_seen mask (λ k. nth_seen end column group k file) j) (entries_seen mask end column group (j + 1) (count - (j + 1)) file))
    (entries_seen mask end column group (j + 1) (count - (j + 1)))
    (λ (file : List ℕ). leaf_seen mask (λ k. nth_seen end column group k file) j)
    found more entries (leaf_first before now name mask end column group count j found walk inside) (λ file. refl) gives is

-- no memory for the entries of a leaf
pub leaf_lost : (before now new : Storage) (name : List ℕ) (mask : ℕ → Bool) (end : ℕ) (column : FileColumn) (group : GroupMeta) (count j : ℕ) (found : List (List Entry)) (entries : List Entry) → GroupWalk before now name mask end column group count j found → j < count →
    Gives now new name (leaf_plan mask name end column group j) (λ file. leaf_seen mask (λ k. nth_seen end column group k file) j ≡ Ok entries) →
    AsksFirst before new (leaves_plan mask name end column group 0 count)
leaf_lost before now new name mask end column group count j found entries walk inside gives =
    walk_part before new name (leaves_plan mask name end column group 0 count) (leaves_plan mask name end column group (j + 1) (count - (j + 1))) (entries_seen mask end column group 0 count) (entries_seen mask end column group (j + 1) (count - (j + 1))) (found ++ entries ∷ [])
    (leaf_goes before now new name mask end column group count j found (found ++ entries ∷ []) entries walk inside gives refl)

pub leaf_stops : (before now new : Storage) (name : List ℕ) (mask : ℕ → Bool) (end : ℕ) (column : FileColumn) (group : GroupMeta) (count j : ℕ) (found : List (List Entry)) (stop : ReadStop GroupFault) → GroupWalk before now name mask end column group count j found → j < count →
    ReadsFile {A = List Entry} {B = List Entry} (λ entries. entries) now new name (leaf_plan mask name end column group j) (λ file. leaf_seen mask (λ k. nth_seen end column group k file) j) (Err stop) →
    ReadsFile {A = List (List Entry)} {B = List (List Entry)} (λ leaves. leaves) before new name (leaves_plan mask name end column group 0 count) (entries_seen mask end column group 0 count) (Err stop)
leaf_stops before now new name mask end column group count j found stop walk inside stops =
    walk_stops before now new name (leaves_plan mask name end column group 0 count) (leaf_plan mask name end column group j) (leaves_plan mask name end column group (j + 1) (count - (j + 1))) (entries_seen mask end column group 0 count)
    (λ (file : List ℕ). one_leaf (leaf_seen mask (λ k. nth_seen end column group k file) j) (entries_seen mask end column group (j + 1) (count - (j + 1)) file))
    (entries_seen mask end column group (j + 1) (count - (j + 1)))
    (λ (file : List ℕ). leaf_seen mask (λ k. nth_seen end column group k file) j)
    found stop (leaf_first before now name mask end column group count j found walk inside) (λ file. refl) stops

pub leaves_end : (before now : Storage) (name : List ℕ) (mask : ℕ → Bool) (end : ℕ) (column : FileColumn) (group : GroupMeta) (count j : ℕ) (found : List (List Entry)) → GroupWalk before now name mask end column group count j found → count ≤ j →
    Gives before now name (leaves_plan mask name end column group 0 count) (λ file. entries_seen mask end column group 0 count file ≡ Ok found)
unfolding leaves_plan leaves_seen
leaves_end before now name mask end column group count j found walk past =
    let none : count - j ≡ 0 = omega (arith, past) in
    walk_ends before now name (leaves_plan mask name end column group 0 count) [] (entries_seen mask end column group 0 count) (entries_seen mask end column group j 0) found
    (subst (λ left. Walk before now name (leaves_plan mask name end column group 0 count) (leaves_plan mask name end column group j left) (entries_seen mask end column group 0 count) (entries_seen mask end column group j left) found) none walk) refl (λ file. refl)

-- each leaf that was read has the rows of its group
pub rows_more : (mask : ℕ → Bool) (rows : ℕ) (found more : List (List Entry)) (entries : List Entry) (j : ℕ) → length found ≡ j → more ≡ found ++ entries ∷ [] →
    ((k : ℕ) → k < j → mask k ≡ true → has_rows rows (get_or found k []) ≡ true) → (mask j ≡ true → has_rows rows entries ≡ true) →
    (k : ℕ) → k < j + 1 → mask k ≡ true → has_rows rows (get_or more k []) ≡ true
rows_more mask rows found more entries j count is before here k below read = by (k == j) refl
  where
    by : (c : Bool) → (k == j) ≡ c → has_rows rows (get_or more k []) ≡ true
    by true same =
        let at : k ≡ j = grind (arith, nat_tests) in
        let own : get_or more k [] ≡ entries = ap (λ (xs : List (List Entry)). get_or xs k []) is ∙ get_or_push found entries [] k (count ∙ sym at) in
        ap (has_rows rows) own ∙ here (subst (λ i. mask i ≡ true) at read)
    by false apart =
        let low : k < length found = grind (arith, nat_tests) in
        let own : get_or more k [] ≡ get_or found k [] = ap (λ (xs : List (List Entry)). get_or xs k []) is ∙ get_or-append found (entries ∷ []) [] k low in
        ap (has_rows rows) own ∙ before k (omega (arith, low, count)) read
