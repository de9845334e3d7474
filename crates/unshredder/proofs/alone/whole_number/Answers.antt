use Rattle.std.proofs.Common.{◌≡◌, true, subst, to_z-of_z, SFits, rules, arith}
use mir.Syntax.{w128}
use Rattle.shred_schema.specs.Cells.{is_of_prim}
use Rattle.shred_schema.proofs.CellFacts.{cell_size}
use Rattle.unshredder.proofs.alone.whole_number.Goals as goal

pub of-requires : goal.of-requires
of-requires c =
    let fits : SFits w128 c.in-Num.unscaled = search rules in
    record {
      size = rw (to_z-of_z fits) (cell_size c.args.prim c.in-Num.unscaled (subst (λ x. is_of_prim c.args.prim x ≡ true) c.in-Num.is c.requires.cell));
      places = omega arith;
    }
