use Rattle.std.proofs.Common.{◌∙◌, ◌++◌, ap, ℕ, List}
use Rattle.std.proofs.lemmas.Int.{to_z-of_z}
use Rattle.std.specs.Int.{w128}
use Rattle.exact_num.proofs.TwosComplement.{high_taken}
use Rattle.plain_values.specs.Written.{decimal_written}
use Rattle.plain_values.proofs.cell_writing.append_big.Goals as goal

pub returns-clause-ok : goal.returns-clause-ok
unfolding decimal_written
returns-clause-ok c =
    let same = to_z-of_z w128 c.args.number c.ranges.number in
    c.in_ok-extend_from_slice.ensures.items
    ∙ ap (λ (xs : List ℕ). c.args.into.now.items ++ xs) (high_taken c.args.size _ c.args.number c.write_int128.new.buf _ c.requires.least c.requires.most c.requires.fits same c.write_int128.ensures)
