-- What the calls on a file answer, and what they leave.
use Rattle.std.specs.Prelude.{◌≡◌, ℕ, Bool, List, length, take, slice_get, Option, None, Some, Result, Ok, Err}
use Rattle.std.specs.List.{flat_map}
use Rattle.std.specs.Io.KnownBytes.{Appends}
use Rattle.json_tree.specs.Json.{Json}
use Rattle.json_tree.specs.declared.types.Tree.{Tree}
use Rattle.query_tree.specs.Asked.{Asked}
use Rattle.outside.specs.Devices.{Device, IsCalm, Fails, AppendsPrefix}
use Rattle.shelf.specs.Storage.{Storage}
use Rattle.shelf.specs.declared.byte_range.ByteRange.{ByteRange}
use Rattle.footer_structs.specs.declared.row_groups.GroupMeta.{GroupMeta}
use Rattle.group_reading.specs.declared.group_faults.GroupFault.{GroupFault}
use Rattle.shelf.specs.Calls.{with_ranges}
use Rattle.store_read.specs.Ranges.{OfFile, Asks, AsksFirst, FailsAt}
use Rattle.store_read.specs.GroupRead.{group_in, group_plan}
use Rattle.group_lines.specs.Lines.{lines_of, trees_of}
use Rattle.store_file.specs.Masks.{needed}
use Rattle.store_file.specs.Places.{in_group}
use Rattle.store_file.specs.SeenGroups.{Seen, all_found, seen_of}
use Rattle.store_file.specs.declared.file_faults.Violation.{Violation}
use Rattle.store_file.specs.declared.file_faults.QueryFault.{QueryFault}
use Rattle.store_file.specs.declared.file_faults.QueryFault.TheVariants.{Refused, ReadFault, WriteFault, NoMemory}
use Rattle.store_file.specs.declared.store_file.StoreFile.{StoreFile}

abbrev pub groups_in : StoreFile → List GroupMeta
groups_in f = f.opened.meta.row_groups

-- the rows of a group under a mask, by the bytes of the file
abbrev pub rows_of : StoreFile → List Bool → List ℕ → GroupMeta → Result (List (Option Json)) GroupFault
rows_of f mask file g = group_in mask f.opened.end f.column g file

-- The rows of the file, and the lines of a query over them.

abbrev pub group_rows : StoreFile → List Bool → List ℕ → ℕ → GroupMeta → Result (List (Option Json)) Violation
group_rows f mask file k g = in_group k (rows_of f mask file g)

-- a query reads the leaves that it needs
abbrev pub group_lines : StoreFile → Asked → List ℕ → ℕ → GroupMeta → Result (List ℕ) Violation
group_lines f asked file k g = in_group k (lines_of asked (rows_of f (needed f asked) file g))

-- the rows under a mask, or what the leaves that it reads violate first
abbrev pub rows_under : StoreFile → List Bool → List ℕ → Seen (Option Json)
rows_under f mask file = seen_of (group_rows f mask file) 0 (groups_in f)

-- the rows where all leaves are read, or what the file violates first
abbrev pub rows_seen : StoreFile → List ℕ → Seen (Option Json)
rows_seen f file = rows_under f f.mask file

-- the lines of the groups before the first that violates a rule in the leaves that the query needs
abbrev pub lines_seen : StoreFile → Asked → List ℕ → Seen ℕ
lines_seen f asked file = seen_of (group_lines f asked file) 0 (groups_in f)

-- What is read of the file: the chunks of each group in order, of the leaves that a mask reads.

abbrev pub chunks_in : StoreFile → List Bool → GroupMeta → List ByteRange
chunks_in f mask g = group_plan mask f.name f.opened.end f.column g

abbrev pub plan_of : StoreFile → List Bool → List GroupMeta → List ByteRange
plan_of f mask groups = flat_map (chunks_in f mask) groups

-- all that a query reads
abbrev pub query_plan : StoreFile → Asked → List ByteRange
query_plan f asked = plan_of f (needed f asked) (groups_in f)

-- all that a check reads
abbrev pub check_plan : StoreFile → List ByteRange
check_plan f = plan_of f f.mask (groups_in f)

-- What a call leaves of the shelf: ranges of a plan were asked for in order, all of them where it read to the end. Nothing
-- else changed, but the count of reads that failed where one did. `broken` is what holds after a write that failed.
abbrev pub AsksPlan : {A : Type 0} → Type 0 → List ByteRange → Storage → Storage → Result A QueryFault → Type 0
AsksPlan broken plan before after (Ok a) = Asks before after plan
AsksPlan broken plan before after (Err (Refused violation)) = AsksFirst before after plan
AsksPlan broken plan before after (Err ReadFault) = FailsAt before after plan
AsksPlan broken plan before after (Err WriteFault) = broken
AsksPlan broken plan before after (Err NoMemory) = AsksFirst before after plan

-- a call that writes the lines of all groups
abbrev pub AsksGroups : {A : Type 0} → StoreFile → Asked → Storage → Storage → Result A QueryFault → Type 0
AsksGroups f asked before after result = AsksPlan (AsksFirst before after (query_plan f asked)) (query_plan f asked) before after result

-- a call that judges all groups. It writes nothing, so that no write fails
abbrev pub JudgesGroups : {A : Type 0} → StoreFile → Storage → Storage → Result A QueryFault → Type 0
JudgesGroups f before after result = AsksPlan ⊥ (check_plan f) before after result

-- What a query answers on the bytes of a file, and what its output gained.

-- the lines that are seen, up to a violation or to the end
pub record Prints (seen : Seen ℕ) (stop : Option Violation) (old new : Option (List ℕ)) : Type 0 where
  pub text : List ℕ
  pub lines : seen ≡ record { found = text; stop = stop }
  pub appended : Appends old new text

-- the lines of the first k groups
pub record PrintsFirst (f : StoreFile) (asked : Asked) (file : List ℕ) (k : ℕ) (old new : Option (List ℕ)) : Type 0 where
  pub text : List ℕ
  pub lines : seen_of (group_lines f asked file) 0 (take k (groups_in f)) ≡ all_found text
  pub appended : Appends old new text

-- the chunks of the first k groups were asked for, and then a read of a chunk of group k failed
pub record FailsIn (f : StoreFile) (mask : List Bool) (before after : Storage) (k : ℕ) : Type 0 where
  pub group : GroupMeta
  pub at : slice_get (groups_in f) k ≡ Some group
  pub fails : FailsAt (with_ranges before (plan_of f mask (take k (groups_in f)))) after (chunks_in f mask group)

-- the lines of the groups before the one whose chunk was asked for last
pub record PrintsRead (f : StoreFile) (asked : Asked) (file : List ℕ) (before after : Storage) (old new : Option (List ℕ)) : Type 0 where
  pub k : ℕ
  pub fails : FailsIn f (needed f asked) before after k
  pub prints : PrintsFirst f asked file k old new

abbrev pub Answers : StoreFile → Asked → List ℕ → Storage → Storage → Option (List ℕ) → Option (List ℕ) → Result (Unit {0}) QueryFault → Type 0
Answers f asked file before after old new (Ok _) = Prints (lines_seen f asked file) None old new
Answers f asked file before after old new (Err (Refused violation)) = Prints (lines_seen f asked file) (Some violation) old new
Answers f asked file before after old new (Err ReadFault) = PrintsRead f asked file before after old new
Answers f asked file before after old new (Err WriteFault) = AppendsPrefix old new (lines_seen f asked file).found
Answers f asked file before after old new (Err NoMemory) = AppendsPrefix old new (lines_seen f asked file).found

-- the count of writes that failed goes with the answer
abbrev pub CountsWrites : {A : Type 0} → Device → Device → Result A QueryFault → Type 0
CountsWrites before after (Ok a) = IsCalm before after
CountsWrites before after (Err (Refused violation)) = IsCalm before after
CountsWrites before after (Err ReadFault) = IsCalm before after
CountsWrites before after (Err WriteFault) = Fails before after
CountsWrites before after (Err NoMemory) = IsCalm before after

-- What the rows of a group are by the bytes of a file, where `defined` says what the group gives.

abbrev pub GivesRows : Result (List (Option Json)) Violation → Result (List (Option Tree)) QueryFault → Type 0
GivesRows defined (Ok trees) = defined ≡ Ok (trees_of trees)
GivesRows defined (Err (Refused violation)) = defined ≡ Err violation
GivesRows defined (Err ReadFault) = Unit {0}
GivesRows defined (Err WriteFault) = ⊥
GivesRows defined (Err NoMemory) = Unit {0}

-- What a check answers on the bytes of a file.

-- no group violates a rule, and the file has so many groups and rows
pub record Counts (f : StoreFile) (file : List ℕ) (groups rows : ℕ) : Type 0 where
  pub all : List (Option Json)
  pub valid : rows_seen f file ≡ all_found all
  pub group_count : groups ≡ length (groups_in f)
  pub row_count : rows ≡ length all

abbrev pub Judges : StoreFile → List ℕ → Result (ℕ × ℕ) QueryFault → Type 0
Judges f file (Ok (groups, rows)) = Counts f file groups rows
Judges f file (Err (Refused violation)) = (rows_seen f file).stop ≡ Some violation
Judges f file (Err ReadFault) = Unit {0}
Judges f file (Err WriteFault) = ⊥
Judges f file (Err NoMemory) = Unit {0}

-- How calls answer.

-- a query: what it asked for, what it wrote by the bytes of the file, and that the count of writes that failed goes with
-- its answer
pub record Queries (f : StoreFile) (asked : Asked) (before after : Storage) (out_before out_after : Device) (result : Result (Unit {0}) QueryFault) : Type 0 where
  pub asks : AsksGroups f asked before after result
  pub answers : OfFile before f.name (λ file. Answers f asked file before after out_before.bytes out_after.bytes result)
  pub counts : CountsWrites out_before out_after result

-- a check: what it asked for, and what it answers by the bytes of the file
pub record Checks (f : StoreFile) (before after : Storage) (result : Result (ℕ × ℕ) QueryFault) : Type 0 where
  pub asks : JudgesGroups f before after result
  pub judges : OfFile before f.name (λ file. Judges f file result)

-- the rows of group k: the chunks of this group alone were asked for, and what they give by the bytes of the file
pub record ReadsRows (f : StoreFile) (before after : Storage) (k : ℕ) (result : Result (List (Option Tree)) QueryFault) : Type 0 where
  pub group : GroupMeta
  pub at : slice_get (groups_in f) k ≡ Some group
  pub asks : AsksPlan ⊥ (chunks_in f f.mask group) before after result
  pub gives : OfFile before f.name (λ file. GivesRows (group_rows f f.mask file k group) result)
