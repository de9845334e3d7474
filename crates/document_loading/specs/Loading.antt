-- What `load` leaves, by how it ends.
use Rattle.std.specs.Prelude.{◌≡◌, ◌⊎◌, ℕ, List, [], ◌∷◌, ◌++◌, take, Option, Result, Ok, Err}
use Rattle.outside.specs.Devices.{Device, IsCalm}
use Rattle.json_tree.specs.Json.{Json}
use Rattle.json_documents.specs.Input.{OfInput, Begins, GivesAll, Stops, Faulted}
use Rattle.json_documents.specs.declared.faults.Stop.{Stop}
use Rattle.json_documents.specs.declared.faults.Stop.TheVariants.{Input, Taker}
use Rattle.shelf.specs.Storage.{Storage, Has, Lacks, with_file, FailsWrite, Clashes}
use Rattle.shelf.specs.Calls.{IsCounted}
use Rattle.command_parsing.specs.Commands.{Load}
use Rattle.store_write.specs.Cutting.{cut_of}
use Rattle.store_write.specs.Frames.{Format, body_of, made}
use Rattle.store_write.specs.Made as written
use Rattle.store_write.specs.Steps.{AreClosed, BeginsPart}
use Rattle.footer_structs.specs.declared.row_groups.GroupMeta.{GroupMeta}
use Rattle.open_group.specs.declared.settings.Settings.{Settings}
use Rattle.store_write.specs.declared.write_error.WriteError.{WriteError}
use Rattle.store_write.specs.declared.write_error.WriteError.TheVariants.{Taken, Failed, FooterFull, NoMemory, Broken}
use Rattle.document_loading.specs.Taken.{rows_of}

-- what a load is handed
pub record Intake : Type 0 where
  pub shelf : Storage
  pub input : Device

abbrev pub intake : Storage → Device → Intake
intake shelf input = record { shelf = shelf; input = input }

abbrev pub settings_of : Load → Settings
settings_of load = record { widths = record { offset = load.widths.offset; id = load.widths.id }; page_bytes = load.page_bytes; group_rows = load.group_rows }

abbrev pub format : Load → Format (Option Json) GroupMeta
format load = written.format (settings_of load) load.schema

-- the file that is written has these bytes; the other files are as before, and no range was asked for
pub record Leaves (before after : Storage) (name bytes : List ℕ) : Type 0 where
  pub fresh : Lacks before.files name
  pub files : after.files ≡ with_file before.files name bytes
  pub touched : after.touched ≡ before.touched

-- the file was begun, and this is what it has of some documents of the input
pub record Writes (load : Load) (before after : Intake) (AreOf : List ℕ → List Json → Type 0) (IsFile : List (Option Json) → List ℕ → Type 0) : Type 0 where
  pub documents : List Json
  pub are_of : OfInput before.input.bytes (λ input. AreOf input documents)
  pub bytes : List ℕ
  pub is_file : IsFile (rows_of documents) bytes
  pub leaves : Leaves before.shelf after.shelf load.out bytes

-- the whole file of rows
abbrev pub IsMade : Load → List (Option Json) → List ℕ → Type 0
IsMade load rows bytes = made (format load) rows ≡ Ok bytes

-- the magic number and the groups of rows that closed
abbrev pub IsClosed : Load → List (Option Json) → List ℕ → Type 0
IsClosed load rows bytes = AreClosed (format load) rows bytes

-- a first part of such bytes
pub record IsPart (IsWhole : List (Option Json) → List ℕ → Type 0) (rows : List (Option Json)) (bytes : List ℕ) : Type 0 where
  pub whole : List ℕ
  pub is_whole : IsWhole rows whole
  pub count : ℕ
  pub is_part : bytes ≡ take count whole

-- the groups before the one whose footer would be too long: it closes with the last of these rows
pub record IsLong (load : Load) (footer_len : ℕ) (rows : List (Option Json)) (bytes : List ℕ) : Type 0 where
  pub earlier : List (Option Json)
  pub last : Option Json
  pub splits : rows ≡ earlier ++ last ∷ []
  pub closed : IsClosed load earlier bytes
  pub long : body_of (format load) (cut_of (format load).is_full rows).closed ≡ Err footer_len

-- the last group is the one: it closes at the end of the input
pub record IsLongAtEnd (load : Load) (footer_len : ℕ) (rows : List (Option Json)) (bytes : List ℕ) : Type 0 where
  pub closed : IsClosed load rows bytes
  pub long : made (format load) rows ≡ Err footer_len

-- by the walk over the input
abbrev pub OfAll : Intake → List ℕ → List Json → Type 0
OfAll after input documents = GivesAll input after.input.bytes documents

-- the footer with a group would be too long
abbrev pub Overflows : Load → Intake → Intake → ℕ → Type 0
Overflows load before after n = Writes load before after Begins (IsLong load n) ⊎ Writes load before after (OfAll after) (IsLongAtEnd load n)

-- a first part of the groups of first documents, or of the whole file
abbrev pub WritesPart : Load → Intake → Intake → Type 0
WritesPart load before after = Writes load before after Begins (IsPart (IsClosed load)) ⊎ Writes load before after (OfAll after) (IsPart (IsMade load))

-- the file wasn't begun, or not whole its magic number
abbrev pub WritesNone : Load → Intake → Intake → Type 0
WritesNone load before after = BeginsPart before.shelf after.shelf load.out × (after.input ≡ before.input)

abbrev pub IsSteady : Intake → Intake → Type 0
IsSteady before after = (after.shelf.counts ≡ before.shelf.counts) × IsCalm before.input after.input

abbrev pub NotLoaded : Load → Intake → Intake → WriteError → Type 0
NotLoaded load before after Taken = Has before.shelf.files load.out × Clashes before.shelf.counts after.shelf.counts × IsCounted before.shelf after.shelf × (after.input ≡ before.input)
NotLoaded load before after Failed = (WritesNone load before after ⊎ WritesPart load before after) × FailsWrite before.shelf.counts after.shelf.counts × IsCalm before.input after.input
NotLoaded load before after (FooterFull n) = Overflows load before after n × IsSteady before after
NotLoaded load before after NoMemory = (WritesNone load before after ⊎ WritesPart load before after) × IsSteady before after
NotLoaded load before after (Broken first) = ⊥

abbrev pub Loads : Load → Intake → Intake → Result (Unit {0}) (Stop WriteError) → Type 0
Loads load before after (Ok _) = Writes load before after (OfAll after) (IsMade load) × IsSteady before after
Loads load before after (Err (Input fault)) = Writes load before after (λ input documents. Stops input after.input.bytes documents fault) (IsClosed load) × (after.shelf.counts ≡ before.shelf.counts) × Faulted before.input after.input fault
Loads load before after (Err (Taker fault)) = NotLoaded load before after fault
