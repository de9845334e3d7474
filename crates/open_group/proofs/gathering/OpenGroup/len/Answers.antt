use Rattle.std.proofs.Common.{arith, map}
use Rattle.std.proofs.lemmas.List.{length-map}
use Rattle.shred_schema.specs.Views.{group_of, row_rec_of}
use Rattle.open_group.proofs.Sizes.{rows_within}
use Rattle.open_group.proofs.gathering.OpenGroup.len.Goals as goal

pub returns-clause-few : goal.returns-clause-few
returns-clause-few c =
    let rows = c.self.inside.gathered.rows in
    let all = c.self.invariant.gathered in
    omega (arith, c.len.ensures, all.few, length-map rows row_rec_of, rows_within (group_of c.self.inside.column.node) c.self.inside.gathered.texts (map row_rec_of rows) all.written.within)
