-- The masks of a column, and the beginning of a file.
use Rattle.std.proofs.Common.{◌≡◌, ◌∙◌, refl, sym, ap, subst, ℕ, suc, ◌+◌, Bool, true, false, not, ◌&&◌, List, length, replicate, Result, Ok, Err, arith}
use Rattle.std.proofs.lemmas.List.{length-replicate}
use Rattle.vs_bytes.specs.Outcome.{◌>>=◌, Makes}
use Rattle.vs_bytes.specs.declared.refused.Refused.{Refused}
use Rattle.vs_bytes.specs.declared.refused.Refused.TheVariants as refused
use Rattle.shelf.specs.Storage.{Storage}
use Rattle.file_columns.specs.Views.{shown}
use Rattle.thrift_footer.proofs.Asking.{Plan, asks_refused, asks_unheld}
use Rattle.store_file.specs.Places.{open_fault}
use Rattle.store_file.specs.declared.store_file.StoreFile.{StoreFile}
use Rattle.vs_bytes.specs.declared.rule.Rule.{Rule}
use Rattle.shred_schema.specs.Groups.{width}
use Rattle.shred_schema.specs.Lawful.{IsWellFormed}
use Rattle.shred_schema.specs.Ranges.{reads, none_read}
use Rattle.shred_schema.specs.Views.{group_of}
use Rattle.file_columns.specs.Columns.{ColumnView}
use Rattle.file_columns.specs.declared.columns.FileColumn.{FileColumn}
use Rattle.thrift_footer.specs.Opening.{opening, Judges, Asks}
use Rattle.thrift_footer.specs.declared.opening.Opened.{Opened}
use Rattle.store_read.specs.GroupRead.{CanRead}
use Rattle.query_tree.specs.Asked.{Asked}
use Rattle.chunk_pruning.proofs.Listed.{needed_are_read, needs_length}
use Rattle.store_file.specs.Masks.{full_mask, needed}
use Rattle.thrift_footer.specs.declared.opening.OpenFault.{OpenFault}
use Rattle.thrift_footer.specs.declared.opening.OpenFault.TheVariants as fault
use Rattle.store_file.specs.Beginning.{column_in, beginning, Begins, IsUsable}

-- leaf 0 is read
some_read : (mask : ℕ → Bool) (count n : ℕ) → count ≡ suc n → mask 0 ≡ true → none_read mask 0 count ≡ false
some_read mask count n is read = ap (none_read mask 0) is ∙ ap (λ (b : Bool). not b && none_read mask 1 n) read

pub can_read : (column : FileColumn) (mask : List Bool) → IsWellFormed (group_of column.column.node) → length column.leaves ≡ 1 + width (group_of column.column.node) → length column.places ≡ 1 + width (group_of column.column.node) → mask ≡ full_mask column → CanRead column mask
can_read column mask well leaves places is =
    let count : 1 + width (group_of column.column.node) ≡ suc (width (group_of column.column.node)) = omega arith in
    let whole : mask ≡ replicate (suc (width (group_of column.column.node))) true = is ∙ ap (λ (n : ℕ). replicate n true) (leaves ∙ count) in
    record {
      well = well;
      leaves = leaves;
      places = places;
      told = ap length is ∙ (length-replicate (length column.leaves) true ∙ leaves);
      some = some_read (reads mask) (1 + width (group_of column.column.node)) (width (group_of column.column.node)) count (ap (λ (m : List Bool). reads m 0) whole);
    }

-- what a query needs can be read
pub can_need : (f : StoreFile) (asked : Asked) (mask : List Bool) → IsUsable f → mask ≡ needed f asked → CanRead f.column mask
can_need f asked mask usable is =
    let n = group_of f.column.column.node in
    record {
      well = usable.can.well;
      leaves = usable.can.leaves;
      places = usable.can.places;
      told = ap length is ∙ needs_length asked n;
      some = some_read (reads mask) (1 + width n) (width n) (omega arith) (ap (λ (m : List Bool). reads m 0) is ∙ needed_are_read asked n 0 refl);
    }

pub begun : (file name : List ℕ) (opened : Opened) (found : Result ColumnView Rule) → opening file ≡ Ok opened → column_in name opened ≡ found → beginning file name ≡ (found >>= λ view. Ok (opened, view))
unfolding beginning
begun file name opened found opens is =
    ap (λ (r : Result Opened Rule). r >>= λ (o : Opened). column_in name o >>= λ (view : ColumnView). Ok (o, view)) opens
    ∙ ap (λ (r : Result ColumnView Rule). r >>= λ (view : ColumnView). Ok (opened, view)) is

pub unopened : (file name : List ℕ) (rule : Rule) → opening file ≡ Err rule → beginning file name ≡ Err rule
unfolding beginning
unopened file name rule opens = ap (λ (r : Result Opened Rule). r >>= λ (o : Opened). column_in name o >>= λ (view : ColumnView). Ok (o, view)) opens

pub begins_fails : (file name : List ℕ) (why : OpenFault) → Judges {A = Opened} (opening file) (Err why) → Begins (beginning file name) (Err why)
begins_fails file name fault.Absent judges = judges
begins_fails file name fault.Failed judges = tt
begins_fails file name (fault.Refused rule) judges = unopened file name rule judges
begins_fails file name fault.NoMemory judges = tt

pub no_column : (file name : List ℕ) (opened : Opened) (refusal : Refused Rule) (result : OpenFault) → opening file ≡ Ok opened → Makes {A = FileColumn} shown (Err refusal) (column_in name opened) → result ≡ open_fault refusal → Begins (beginning file name) (Err result)
no_column file name opened refusal result opens makes is = subst (λ (r : OpenFault). Begins (beginning file name) (Err r)) (sym is) (by refusal makes)
  where
    by : (r : Refused Rule) → Makes {A = FileColumn} shown (Err r) (column_in name opened) → Begins (beginning file name) (Err (open_fault r))
    by (refused.Fault rule) m = begun file name opened (Err rule) opens m
    by refused.NoMemory m = tt

pub column_asked : (before after : Storage) (name : List ℕ) (plan : Plan) (opened : Opened) (refusal : Refused Rule) (result : OpenFault) → Asks before after name plan (Ok opened) → result ≡ open_fault refusal → Asks {A = StoreFile} before after name plan (Err result)
column_asked before after name plan opened refusal result asks is = subst (λ (r : OpenFault). Asks {A = StoreFile} before after name plan (Err r)) (sym is) (by refusal)
  where
    by : (r : Refused Rule) → Asks {A = StoreFile} before after name plan (Err (open_fault r))
    by (refused.Fault rule) = asks_refused before after name plan opened rule asks
    by refused.NoMemory = asks_unheld before after name plan opened asks
