-- What a writer of a file has done, and what its calls leave.
use Rattle.std.specs.Prelude.{◌≡◌, ℕ, ◌+◌, ◌<◌, ◌≤◌, List, [], ◌∷◌, ◌++◌, length, Bool, true, MatchBool, Option, None, Some, Result, Ok, Err, ◌⊎◌}
use Rattle.std.specs.List.{concat}
use Rattle.std.specs.FinMap.{get}
use Rattle.json_tree.specs.Json.{Json}
use Rattle.shred_schema.specs.Groups.{Group}
use Rattle.shred_schema.specs.Recs.{RowRec}
use Rattle.shredder.specs.Shredded.{shred_row}
use Rattle.striping_laws.specs.Rows.{text_len, texts_len}
use Rattle.group_writing.specs.GroupChunks.{chunks_size}
use Rattle.open_group.specs.declared.settings.Settings.{Settings}
use Rattle.open_group.specs.Filling.{is_full, is_full_by, rows_count, records_of}
use Rattle.open_group.specs.OpenGroups.{Open, records_in, node_of, KeepsColumn}
use Rattle.footer_structs.specs.FileEnds.{footer_limit, magic}
use Rattle.closed_groups.specs.ClosedGroups.{Closed, meta_of, with_group, footer_size, ending_of}
use Rattle.footer_structs.specs.FooterWriting.{footer_bytes}
use Rattle.shelf.specs.Storage.{Files, Storage, Lacks, with_file, appended}
use Rattle.shelf.specs.Calls.{Creates, Adds}
use Rattle.shelf.specs.declared.shelf.ShelfError.TheVariants as shelf
use Rattle.store_write.specs.Cutting.{cut_of}
use Rattle.store_write.specs.Frames.{body_of}
use Rattle.store_write.specs.Made.{format, schema_of, paths_of, orders_of, chunks_of, struct_of, made}
use Rattle.store_write.specs.declared.write_error.First.{First}
use Rattle.store_write.specs.declared.write_error.First.TheVariants as first
use Rattle.store_write.specs.Refusals.{told_of, refused_in}
use Rattle.store_write.specs.declared.write_error.WriteError.{WriteError}
use Rattle.store_write.specs.declared.write_error.WriteError.TheVariants as error
use Rattle.store_write.specs.declared.file_writer.FileWriter.{FileWriter}

-- what contracts see of a writer: the name of its file, the node of its column, and the choices
abbrev pub name_of : FileWriter → List ℕ
name_of w = w.name

abbrev pub node_in : FileWriter → Group
node_in w = node_of w.open

abbrev pub settings_in : FileWriter → Settings
settings_in w = w.open.settings

abbrev pub broken_by : FileWriter → Option First
broken_by w = w.broken

-- Rows were written by a node and some choices, and so far `bytes` stand in the file: the magic number and the chunks of
-- the groups that close. What is kept is the structs of these groups with the place after them, and the records of the
-- rows after them.
pub record StandsBy (settings : Settings) (n : Group) (g : Open) (c : Closed) (bytes : List ℕ) (rows : List (Option Json)) : Type 0 where
  pub schema : c.schema ≡ schema_of n
  pub orders : c.orders ≡ orders_of (paths_of n)
  pub paths : g.paths ≡ paths_of n
  pub closed : body_of (format settings n) (cut_of (is_full settings n) rows).closed ≡ Ok (record { bytes = bytes; metas = c.groups })
  pub rest : records_in g ≡ records_of settings n (cut_of (is_full settings n) rows).rest
  pub texts : g.texts ≡ texts_len (cut_of (is_full settings n) rows).rest
  pub at_end : c.place ≡ length bytes

-- a writer that isn't broken has written these rows, by its node and its choices
pub record Stands (w : FileWriter) (bytes : List ℕ) (rows : List (Option Json)) : Type 0 where
  pub whole : w.broken ≡ None
  pub stands : StandsBy (settings_in w) (node_in w) w.open w.closed bytes rows

-- where the files are known, the writer's file is there, and so it stands
abbrev pub StandsIn : Option Files → FileWriter → List (Option Json) → Type 0
StandsIn None w rows = Unit {0}
StandsIn (Some m) w rows = (bytes : List ℕ) × (get m w.name ≡ Some bytes) × Stands w bytes rows

-- A group closes with some records: `g` and `c` are the open group and the closed ones before, `h` and `d` after.

abbrev pub chunks_with : Open → List RowRec → List (List ℕ)
chunks_with g records = chunks_of g.settings (node_of g) records

-- the closed groups with one more
abbrev pub closed_with : Open → Closed → List RowRec → Closed
closed_with g c records = with_group c (struct_of g.settings (node_of g) g.paths c.place records) (chunks_size (chunks_with g records))

-- its chunks are added to the file
pub record IsClosed (name : List ℕ) (g h : Open) (c d : Closed) (before after : Storage) (records : List RowRec) : Type 0 where
  pub added : after ≡ record before { files = appended before.files name (concat (chunks_with g records)) }
  pub closed : d ≡ closed_with g c records
  pub short : footer_size (closed_with g c records) ≤ footer_limit
  pub rows : h.rows ≡ []
  pub texts : h.texts ≡ 0

-- the footer would be too long, or it would be short and the shelf didn't take all chunks
abbrev pub Closes : List ℕ → Open → Open → Closed → Closed → Storage → Storage → List RowRec → Result (Unit {0}) First → Type 0
Closes name g h c d before after records (Ok _) = IsClosed name g h c d before after records
Closes name g h c d before after records (Err first.Failed) = (footer_size (closed_with g c records) ≤ footer_limit) × Adds before after name (concat (chunks_with g records)) (Err shelf.Failed)
Closes name g h c d before after records (Err (first.FooterFull len)) = (after ≡ before) × (len ≡ footer_size (closed_with g c records)) × (footer_limit < len)
Closes name g h c d before after records (Err first.NoMemory) = (after ≡ before) ⊎ ((footer_size (closed_with g c records) ≤ footer_limit) × Adds before after name (concat (chunks_with g records)) (Err shelf.NoMemory))

-- A row is added: it is kept, and where it fills the group the group closes.

abbrev pub records_with : Open → Option Json → List RowRec
records_with g row = records_in g ++ shred_row (node_of g) row g.settings.widths ∷ []

abbrev pub texts_with : Open → Option Json → ℕ
texts_with g row = g.texts + (text_len row + 1)

abbrev pub is_full_with : Open → Option Json → Bool
is_full_with g row = is_full_by g.settings (length (records_with g row)) (texts_with g row) (rows_count (node_of g) (records_with g row))

pub record IsKept (g h : Open) (c d : Closed) (before after : Storage) (row : Option Json) : Type 0 where
  pub same : after ≡ before
  pub closed : d ≡ c
  pub rows : records_in h ≡ records_with g row
  pub texts : h.texts ≡ texts_with g row

abbrev pub Pushes : List ℕ → Open → Open → Closed → Closed → Storage → Storage → Option Json → Result (Unit {0}) First → Type 0
Pushes name g h c d before after row (Ok _) = MatchBool (is_full_with g row) (IsClosed name g h c d before after (records_with g row)) (IsKept g h c d before after row)
Pushes name g h c d before after row (Err e) = ((e ≡ first.NoMemory) × (after ≡ before)) ⊎ ((is_full_with g row ≡ true) × Closes name g h c d before after (records_with g row) (Err e))

-- what a writer that wasn't broken adds, and that it is broken by the first refusal
pub record AddsRow (w v : FileWriter) (before after : Storage) (row : Option Json) (result : Result (Unit {0}) WriteError) : Type 0 where
  pub done : Result (Unit {0}) First
  pub told : result ≡ told_of done
  pub pushes : Pushes w.name w.open v.open w.closed v.closed before after row done
  pub broken : v.broken ≡ refused_in done

-- the name, the column and the choices stay
pub record KeepsForm (w v : FileWriter) : Type 0 where
  pub name : v.name ≡ w.name
  pub column : KeepsColumn w.open v.open

-- The end: the rows that are left close as a group, and the footer follows.

-- the chunks of the rows that are left, and what is closed then
abbrev pub left_chunks : Open → List RowRec → List ℕ
left_chunks g [] = []
left_chunks g records = concat (chunks_with g records)

abbrev pub left_closed : Open → Closed → List RowRec → Closed
left_closed g c [] = c
left_closed g c records = closed_with g c records

-- where rows were left, the footer isn't too long with their group
abbrev pub IsShortEnd : Open → Closed → List RowRec → Type 0
IsShortEnd g c [] = Unit {0}
IsShortEnd g c records = footer_size (closed_with g c records) ≤ footer_limit

-- all that the end adds to the file
abbrev pub end_bytes : Open → Closed → List RowRec → List ℕ
end_bytes g c records = left_chunks g records ++ ending_of (footer_bytes (meta_of (left_closed g c records)))

abbrev pub Finishes : List ℕ → Open → Closed → List RowRec → Storage → Storage → Result (Unit {0}) First → Type 0
Finishes name g c records before after (Ok _) = (after ≡ record before { files = appended before.files name (end_bytes g c records) }) × IsShortEnd g c records
Finishes name g c records before after (Err first.Failed) = IsShortEnd g c records × Adds before after name (end_bytes g c records) (Err shelf.Failed)
Finishes name g c records before after (Err (first.FooterFull len)) = (0 < length records) × (after ≡ before) × (len ≡ footer_size (left_closed g c records)) × (footer_limit < len)
Finishes name g c records before after (Err first.NoMemory) = (after ≡ before) ⊎ (IsShortEnd g c records × Adds before after name (end_bytes g c records) (Err shelf.NoMemory))

-- the footer alone
abbrev pub EndsWith : List ℕ → List ℕ → Storage → Storage → Result (Unit {0}) First → Type 0
EndsWith name bytes before after (Ok _) = after ≡ record before { files = appended before.files name bytes }
EndsWith name bytes before after (Err first.Failed) = Adds before after name bytes (Err shelf.Failed)
EndsWith name bytes before after (Err (first.FooterFull len)) = ⊥
EndsWith name bytes before after (Err first.NoMemory) = (after ≡ before) ⊎ Adds before after name bytes (Err shelf.NoMemory)

pub record EndsFile (w : FileWriter) (before after : Storage) (result : Result (Unit {0}) WriteError) : Type 0 where
  pub done : Result (Unit {0}) First
  pub told : result ≡ told_of done
  pub finishes : Finishes w.name w.open w.closed (records_in w.open) before after done

-- where the files are known, the file is the one of these rows
abbrev pub MadeIn : Option Files → List ℕ → Settings → Group → List (Option Json) → Type 0
MadeIn None name settings n rows = Unit {0}
MadeIn (Some m) name settings n rows = (bytes : List ℕ) × (get m name ≡ Some bytes) × (made settings n rows ≡ Ok bytes)

-- what a call leaves that makes a file and writes the magic number to it
abbrev pub Starts : Storage → Storage → List ℕ → Option WriteError → Type 0
Starts before after name None = Lacks before.files name × (after ≡ record before { files = with_file before.files name magic })
Starts before after name (Some error.Taken) = Creates before after name (Err shelf.Taken)
Starts before after name (Some error.Failed) = Creates before after name (Err shelf.Failed) ⊎ ((made : Storage) × Creates before made name (Ok tt) × Adds made after name magic (Err shelf.Failed))
Starts before after name (Some error.NoMemory) = (after ≡ before) ⊎ ((made : Storage) × Creates before made name (Ok tt) × Adds made after name magic (Err shelf.NoMemory))
Starts before after name (Some (error.FooterFull len)) = ⊥
Starts before after name (Some (error.Broken e)) = ⊥

-- why a call was refused, if it was
abbrev pub error_of : {A E : Type 0} → Result A E → Option E
error_of (Ok a) = None
error_of (Err e) = Some e

-- a writer of this name, node and choices
pub record IsFor (w : FileWriter) (name : List ℕ) (n : Group) (settings : Settings) : Type 0 where
  pub named : w.name ≡ name
  pub of : node_in w ≡ n
  pub chosen : settings_in w ≡ settings
