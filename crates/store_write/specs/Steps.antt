-- What the calls of a writer leave, for any bytes and rows for which it stands: by cases on the answer.
use Rattle.std.specs.Prelude.{◌≡◌, ◌⊎◌, ℕ, ◌≤◌, List, [], ◌∷◌, ◌++◌, length, take, Option, Some, Result, Ok, Err}
use Rattle.json_tree.specs.Json.{Json}
use Rattle.shred_schema.specs.Groups.{Group}
use Rattle.footer_structs.specs.declared.row_groups.GroupMeta.{GroupMeta}
use Rattle.open_group.specs.declared.settings.Settings.{Settings}
use Rattle.footer_structs.specs.FileEnds.{magic}
use Rattle.shelf.specs.Storage.{Storage, Has, Lacks, with_file, appended, FailsWrite, Clashes}
use Rattle.shelf.specs.Calls.{IsCounted}
use Rattle.store_write.specs.Cutting.{cut_of}
use Rattle.store_write.specs.Frames.{Format, body_of}
use Rattle.store_write.specs.Frames as frame
use Rattle.store_write.specs.Made.{format}
use Rattle.store_write.specs.Writers.{Stands, IsFor, name_of, node_in, settings_in, broken_by}
use Rattle.store_write.specs.declared.file_writer.FileWriter.{FileWriter}
use Rattle.store_write.specs.declared.write_error.WriteError.{WriteError}
use Rattle.store_write.specs.declared.write_error.WriteError.TheVariants as error

-- how the writer writes rows
abbrev pub format_in : FileWriter → Format (Option Json) GroupMeta
format_in w = format (settings_in w) (node_in w)

-- the magic number and the groups of rows that closed
pub record AreClosed (f : Format (Option Json) GroupMeta) (rows : List (Option Json)) (bytes : List ℕ) : Type 0 where
  pub metas : List GroupMeta
  pub body : body_of f (cut_of f.is_full rows).closed ≡ Ok (record { bytes = bytes; metas = metas })

-- name, column and choices stay
pub record Keeps (w v : FileWriter) : Type 0 where
  pub name : name_of v ≡ name_of w
  pub node : node_in v ≡ node_in w
  pub settings : settings_in v ≡ settings_in w

-- ---- a file that begins

pub record Begins (before after : Storage) (name : List ℕ) (n : Group) (settings : Settings) (w : FileWriter) : Type 0 where
  pub fresh : Lacks before.files name
  pub grown : after ≡ record before { files = with_file before.files name magic }
  pub stands : Stands w magic []
  pub is_for : IsFor w name n settings

-- the file is new and has a first part of the magic number, or the files are as before
pub record BeginsPart (before after : Storage) (name : List ℕ) : Type 0 where
  pub files : (after.files ≡ before.files) ⊎ (Lacks before.files name × (k : ℕ) × (k ≤ length magic) × (after.files ≡ with_file before.files name (take k magic)))
  pub touched : after.touched ≡ before.touched

abbrev pub NotBegun : Storage → Storage → List ℕ → WriteError → Type 0
NotBegun before after name error.Taken = Has before.files name × Clashes before.counts after.counts × IsCounted before after
NotBegun before after name error.Failed = BeginsPart before after name × FailsWrite before.counts after.counts
NotBegun before after name (error.FooterFull len) = ⊥
NotBegun before after name error.NoMemory = BeginsPart before after name × (after.counts ≡ before.counts)
NotBegun before after name (error.Broken first) = ⊥

-- ---- a row

-- it was taken
pub record TakesRow (before after : Storage) (w v : FileWriter) (row : Option Json) : Type 0 where
  pub more : List ℕ
  pub grown : after ≡ record before { files = appended before.files (name_of w) more }
  pub keeps : Keeps w v
  pub stands : (bytes : List ℕ) (rows : List (Option Json)) → Stands w bytes rows → Stands v (bytes ++ more) (rows ++ row ∷ [])

-- the file gained a first part of some bytes
pub record Gains (before after : Storage) (name more : List ℕ) : Type 0 where
  pub count : ℕ
  pub within : count ≤ length more
  pub files : after.files ≡ appended before.files name (take count more)
  pub touched : after.touched ≡ before.touched

-- it wasn't taken: the file gained nothing, or a first part of the chunks of the group that closes with the row
pub record CutsRow (before after : Storage) (w : FileWriter) (row : Option Json) : Type 0 where
  pub more : List ℕ
  pub gains : Gains before after (name_of w) more
  pub chunks : (bytes : List ℕ) (rows : List (Option Json)) → Stands w bytes rows → (more ≡ []) ⊎ AreClosed (format_in w) (rows ++ row ∷ []) (bytes ++ more)

-- with the row the footer would be longer than its limit
pub record RowOverflows (before after : Storage) (w : FileWriter) (row : Option Json) (len : ℕ) : Type 0 where
  pub untouched : after ≡ before
  pub long : (bytes : List ℕ) (rows : List (Option Json)) → Stands w bytes rows → body_of (format_in w) (cut_of (format_in w).is_full (rows ++ row ∷ [])).closed ≡ Err len

abbrev pub NotTaken : Storage → Storage → FileWriter → Option Json → WriteError → Type 0
NotTaken before after w row error.Taken = ⊥
NotTaken before after w row error.Failed = CutsRow before after w row × FailsWrite before.counts after.counts
NotTaken before after w row (error.FooterFull len) = RowOverflows before after w row len
NotTaken before after w row error.NoMemory = CutsRow before after w row × (after.counts ≡ before.counts)
NotTaken before after w row (error.Broken first) = (broken_by w ≡ Some first) × (after ≡ before)

-- ---- the end

-- the last group and the footer were written
pub record Completes (before after : Storage) (w : FileWriter) : Type 0 where
  pub more : List ℕ
  pub grown : after ≡ record before { files = appended before.files (name_of w) more }
  pub whole : (bytes : List ℕ) (rows : List (Option Json)) → Stands w bytes rows → frame.made (format_in w) rows ≡ Ok (bytes ++ more)

-- the file gained nothing, or a first part of them
pub record CutsEnd (before after : Storage) (w : FileWriter) : Type 0 where
  pub more : List ℕ
  pub gains : Gains before after (name_of w) more
  pub part : (bytes : List ℕ) (rows : List (Option Json)) → Stands w bytes rows → (more ≡ []) ⊎ (frame.made (format_in w) rows ≡ Ok (bytes ++ more))

-- the footer would be longer than its limit with the last group
pub record EndOverflows (before after : Storage) (w : FileWriter) (len : ℕ) : Type 0 where
  pub untouched : after ≡ before
  pub long : (bytes : List ℕ) (rows : List (Option Json)) → Stands w bytes rows → frame.made (format_in w) rows ≡ Err len

abbrev pub NotEnded : Storage → Storage → FileWriter → WriteError → Type 0
NotEnded before after w error.Taken = ⊥
NotEnded before after w error.Failed = CutsEnd before after w × FailsWrite before.counts after.counts
NotEnded before after w (error.FooterFull len) = EndOverflows before after w len
NotEnded before after w error.NoMemory = CutsEnd before after w × (after.counts ≡ before.counts)
NotEnded before after w (error.Broken first) = (broken_by w ≡ Some first) × (after ≡ before)

-- ---- by the answer

abbrev pub Starting : Storage → Storage → List ℕ → Group → Settings → Result FileWriter WriteError → Type 0
Starting before after name n settings (Ok w) = Begins before after name n settings w
Starting before after name n settings (Err fault) = NotBegun before after name fault

abbrev pub Pushing : Storage → Storage → FileWriter → FileWriter → Option Json → Result (Unit {0}) WriteError → Type 0
Pushing before after w v row (Ok u) = TakesRow before after w v row
Pushing before after w v row (Err fault) = NotTaken before after w row fault

abbrev pub Ending : Storage → Storage → FileWriter → Result (Unit {0}) WriteError → Type 0
Ending before after w (Ok u) = Completes before after w
Ending before after w (Err fault) = NotEnded before after w fault
