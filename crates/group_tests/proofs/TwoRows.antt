-- The rows of the test can be written, and its column can be read.
use Rattle.std.proofs.Common.{◌≡◌, ◌∙◌, refl, sym, ap, subst, ◌+◌, Bool, true, List, [], ◌∷◌, length, arith}
use Rattle.shred_schema.specs.Groups.{Group, width}
use Rattle.shred_schema.specs.Lawful.{IsWellFormed}
use Rattle.shred_schema.specs.Ranges.{none_read, reads}
use Rattle.shred_schema.specs.Recs.{RowRec}
use Rattle.shred_schema.specs.Views.{group_of}
use Rattle.striping_laws.specs.Rows.{AreWritten}
use Rattle.group_writing.specs.GroupRows.{IsGroup}
use Rattle.file_columns.specs.declared.columns.FileColumn.{FileColumn}
use Rattle.store_read.specs.GroupRead.{CanRead}
use Rattle.group_tests.specs.Given.{variant, two_rows}

two_written : AreWritten true variant 40 two_rows
two_written = record {
  of = (refl, ((tt, tt), tt));
  fit = (tt, ((omega arith, (omega arith, tt)), tt));
  within = (0, 20, omega arith, tt, (10, 0, omega arith, (omega arith, (omega arith, omega arith, tt)), tt));
}

pub rows_are_group : (n : Group) (rows : List RowRec) → n ≡ variant → rows ≡ two_rows → IsGroup true n rows
rows_are_group n rows node is =
    subst (λ (m : Group). IsGroup true m rows) (sym node)
    (subst (λ (xs : List RowRec). IsGroup true variant xs) (sym is) (record { total = 40; few = omega arith; written = two_written }))

well : IsWellFormed variant
well = record { nodes = (tt, tt); deep = omega arith; few = omega arith }

pub well_formed : (n : Group) → n ≡ variant → IsWellFormed n
well_formed n node = subst IsWellFormed (sym node) well

pub can_read : (column : FileColumn) (mask : List Bool) → group_of column.column.node ≡ variant → length column.leaves ≡ 2 → length column.places ≡ 2 → mask ≡ true ∷ true ∷ [] → CanRead column mask
can_read column mask node leaves places is =
    let two : 1 + width (group_of column.column.node) ≡ 2 = ap (λ n. 1 + width n) node in
    record {
      well = well_formed (group_of column.column.node) node;
      leaves = leaves ∙ sym two;
      places = places ∙ sym two;
      told = ap length is ∙ sym two;
      some = ap (λ (m : List Bool). none_read (reads m) 0 (1 + width (group_of column.column.node))) is ∙ ap (none_read (reads (true ∷ true ∷ [])) 0) two;
    }
