-- What a file is that was begun: its opening, and the view of its column.
use Rattle.std.proofs.Common.{◌≡◌, ◌∙◌, sym, ℕ, List, Option, Result, Ok}
use Rattle.json_tree.specs.Json.{Json}
use Rattle.vs_bytes.specs.declared.rule.Rule.{Rule}
use Rattle.file_columns.specs.Columns.{ColumnView}
use Rattle.file_columns.specs.Views.{shown}
use Rattle.thrift_footer.specs.declared.opening.Opened.{Opened}
use Rattle.store_laws.specs.ValidFiles.{IsValid}
use Rattle.store_file.specs.Beginning.{beginning}
use Rattle.store_file.specs.declared.store_file.StoreFile.{StoreFile}
use Rattle.store_file.proofs.Beginning.{begun}
use Rattle.file_laws.specs.Begun.{IsBegunFrom}

abbrev pub Start : Type 0
Start = Opened × ColumnView

ok_start : (a b : Start) → ◌≡◌ {A = Result Start Rule} (Ok a) (Ok b) → a ≡ b
ok_start a b e = cc

pub one_start : (column bytes : List ℕ) (s : Start) (f : StoreFile) → IsBegunFrom column bytes f → beginning bytes column ≡ Ok s → s ≡ (f.opened, shown f.column)
one_start column bytes s f b is = ok_start s (f.opened, shown f.column) (sym is ∙ b.is_of)

pub valid_start : (column bytes : List ℕ) (rows : List (Option Json)) (v : IsValid bytes column rows) → beginning bytes column ≡ Ok (v.opened, v.view)
valid_start column bytes rows v =
    begun bytes column v.opened (Ok v.view) v.opens v.has_column
