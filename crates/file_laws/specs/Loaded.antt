-- Files that a load wrote.
use Rattle.std.specs.Prelude.{◌≡◌, ℕ, List, Option, Some, Ok}
use Rattle.std.specs.Io.KnownBytes.{Appends}
use Rattle.json_tree.specs.Json.{Json}
use Rattle.json_documents.specs.Documents.{at_end, HasDocuments}
use Rattle.outside.specs.Devices.{Device}
use Rattle.shelf.specs.Storage.{Files}
use Rattle.thrift_footer.specs.Opening.{IsFile}
use Rattle.schema_parsing.specs.Canonical.{HasText}
use Rattle.command_parsing.specs.Commands.{Load}
use Rattle.open_group.specs.OpenGroups.{IsSettings}
use Rattle.store_write.specs.Made.{column_name}
use Rattle.document_loading.specs.Loading.{Intake, Loads, settings_of}
use Rattle.document_loading.specs.Taken.{rows_of}
use Rattle.store_laws.specs.ValidFiles.{IsValid, IsHonest}
use Rattle.file_answers.specs.Beginning.{Readout}

-- its settings are those that a writer takes, and its schema is that of a text
pub record CanLoad (load : Load) : Type 0 where
  pub settings : IsSettings (settings_of load)
  pub schema : HasText load.schema

-- a load was done, of a known input to a known shelf
pub record IsLoaded (load : Load) (input : List ℕ) (before after : Intake) : Type 0 where
  pub can : CanLoad load
  pub is_input : before.input.bytes ≡ Some input
  pub files : Files
  pub are_files : before.shelf.files ≡ Some files
  pub loads : Loads load before after (Ok tt)

-- a call reads the file that a load wrote, at its column, where the file has the bytes that the load left
pub record FollowsLoad (load : Load) (after : Intake) (file column : List ℕ) (from : Readout) : Type 0 where
  pub stays : (bytes : List ℕ) → IsFile after.shelf.files load.out bytes → IsFile from.shelf.files load.out bytes
  pub same_file : file ≡ load.out
  pub same_column : column ≡ column_name

-- this holds of all documents of an input, which has no fault
pub record OfDocuments (input : List ℕ) (P : List Json → Type 0) : Type 0 where
  pub documents : List Json
  pub are_all : HasDocuments input documents at_end
  pub holds : P documents

-- two outputs gained the same
pub record GainTheSame (a b c d : Device) : Type 0 where
  pub text : List ℕ
  pub first : Appends a.bytes b.bytes text
  pub second : Appends c.bytes d.bytes text

-- a file is valid and honest, and its rows are all documents of an input, which has no fault
pub record HoldsAll (files : Option Files) (file input : List ℕ) : Type 0 where
  pub documents : List Json
  pub are_all : HasDocuments input documents at_end
  pub bytes : List ℕ
  pub there : IsFile files file bytes
  pub valid : IsValid bytes column_name (rows_of documents)
  pub honest : IsHonest bytes column_name
