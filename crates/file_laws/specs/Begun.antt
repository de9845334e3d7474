-- Files that were begun from known bytes.
use Rattle.std.specs.Prelude.{◌≡◌, ℕ, List, Ok}
use Rattle.file_columns.specs.Columns.{ColumnView}
use Rattle.thrift_footer.specs.declared.opening.Opened.{Opened}
use Rattle.store_file.specs.Beginning.{beginning, IsUsable}
use Rattle.store_file.specs.declared.store_file.StoreFile.{StoreFile}
use Rattle.file_answers.specs.Beginning.{IsOf}

-- the file has these bytes, and the column is that of the name
pub record IsBegunFrom (column bytes : List ℕ) (f : StoreFile) : Type 0 where
  pub usable : IsUsable f
  pub is_of : IsOf column bytes f

-- the bytes open, and have the column
pub record CanBegin (column bytes : List ℕ) : Type 0 where
  pub opened : Opened
  pub view : ColumnView
  pub begins : beginning bytes column ≡ Ok (opened, view)
