-- What is known of a file before its groups are read: its opening, and then the column of a name in it.
use Rattle.std.specs.Prelude.{◌≡◌, ℕ, List, Result, Ok, Err}
use Rattle.vs_bytes.specs.Outcome.{◌>>=◌}
use Rattle.vs_bytes.specs.declared.rule.Rule.{Rule}
use Rattle.file_columns.specs.Columns.{ColumnView, column_of}
use Rattle.file_columns.specs.Views.{shown}
use Rattle.footer_structs.specs.Footers.{orders_in}
use Rattle.thrift_footer.specs.Opening.{opening}
use Rattle.thrift_footer.specs.declared.opening.Opened.{Opened}
use Rattle.thrift_footer.specs.declared.opening.OpenFault.{OpenFault}
use Rattle.thrift_footer.specs.declared.opening.OpenFault.TheVariants.{Absent, Failed, Refused, NoMemory}
use Rattle.store_read.specs.GroupRead.{CanRead}
use Rattle.store_file.specs.Masks.{full_mask}
use Rattle.store_file.specs.declared.store_file.StoreFile.{StoreFile}

-- the column of a name in a file that was opened
abbrev pub column_in : List ℕ → Opened → Result ColumnView Rule
column_in name opened = column_of opened.meta.schema name (orders_in opened.meta.column_orders)

-- the opening and the column, or the first rule that the file violates
unfoldable pub beginning : List ℕ → List ℕ → Result (Opened × ColumnView) Rule
beginning file name = opening file >>= λ opened. column_in name opened >>= λ view. Ok (opened, view)

-- what is known of a file that was begun: its column can be read, and its mask reads all leaves
pub record IsUsable (f : StoreFile) : Type 0 where
  pub can : CanRead f.column f.mask
  pub reads : f.mask ≡ full_mask f.column

-- a file that was begun is what its bytes say; a refusal names the rule. Devices and memory may fail
abbrev pub Begins : Result (Opened × ColumnView) Rule → Result StoreFile OpenFault → Type 0
Begins defined (Ok f) = defined ≡ Ok (f.opened, shown f.column)
Begins defined (Err Absent) = ⊥
Begins defined (Err Failed) = Unit {0}
Begins defined (Err (Refused rule)) = defined ≡ Err rule
Begins defined (Err NoMemory) = Unit {0}
