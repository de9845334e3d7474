-- What documents a writer has taken, from a first storage and writer on.
use Rattle.std.specs.Prelude.{◌≡◌, ℕ, List, ◌++◌, map, Option, Some}
use Rattle.json_tree.specs.Json.{Json}
use Rattle.shelf.specs.Storage.{Storage, Has, appended}
use Rattle.store_write.specs.Writers.{Stands, name_of}
use Rattle.store_write.specs.Steps.{Keeps, NotTaken}
use Rattle.store_write.specs.declared.file_writer.FileWriter.{FileWriter}
use Rattle.store_write.specs.declared.write_error.WriteError.{WriteError}

-- each document is a row that is there
abbrev pub rows_of : List Json → List (Option Json)
rows_of documents = map Some documents

-- the file gained some bytes, and stands for these documents more
pub record Took (first : Storage) (w : FileWriter) (documents : List Json) (v : FileWriter) (now : Storage) : Type 0 where
  pub more : List ℕ
  pub grown : now ≡ record first { files = appended first.files (name_of w) more }
  pub keeps : Keeps w v
  pub stands : (bytes : List ℕ) (rows : List (Option Json)) → Stands w bytes rows → Stands v (bytes ++ more) (rows ++ rows_of documents)

-- these were taken, and then one wasn't
pub record Refused (first : Storage) (w : FileWriter) (documents : List Json) (document : Json) (fault : WriteError) (now : Storage) : Type 0 where
  pub before : Storage
  pub writer : FileWriter
  pub took : Took first w documents writer before
  pub refused : NotTaken before now writer (Some document) fault

-- where the file is there at first

abbrev pub TookIf : Storage → FileWriter → List Json → FileWriter → Storage → Type 0
TookIf first w documents v now = Has first.files (name_of w) → Took first w documents v now

abbrev pub RefusedIf : Storage → FileWriter → List Json → Json → WriteError → Storage → Type 0
RefusedIf first w documents document fault now = Has first.files (name_of w) → Refused first w documents document fault now
