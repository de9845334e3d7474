use Rattle.std.proofs.Common.{◌≡◌, true, subst, sym, to_z-of_z, SFits, rules}
use Rattle.std.specs.Str.{IsUtf8}
use mir.Syntax.{w128}
use Rattle.shred_schema.specs.Cells.{is_of_prim}
use Rattle.shred_schema.proofs.CellFacts.{cell_size, cell_text}
use Rattle.shred_schema.proofs.fitting.tree_of.Goals as goal

pub of-requires-clause-size : goal.of-requires-clause-size
of-requires-clause-size c =
    let fits : SFits w128 c.in-Num.unscaled = search rules in
    rw (to_z-of_z fits) (cell_size c.args.prim c.in-Num.unscaled (subst (λ x. is_of_prim c.args.prim x ≡ true) c.in-Num.is c.requires.cell))

pub from_utf8_slice-requires : goal.from_utf8_slice-requires
from_utf8_slice-requires c =
    subst IsUtf8 (sym c.as_slice.ensures) (cell_text c.args.prim c.in-Bytes.bytes c.requires.read (subst (λ x. is_of_prim c.args.prim x ≡ true) c.in-Bytes.is c.requires.cell))
