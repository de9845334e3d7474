use Rattle.std.proofs.Common.{◌∙◌, ap, ℕ, List, arith, rules, SFits}
use Rattle.std.proofs.lemmas.Int.{to_z-of_z}
use Rattle.std.specs.Int.{w128}
use Rattle.byteorder.specs.Endian.{twos_complement, little_number}
use Rattle.exact_num.proofs.TwosComplement.{read_little}
use Rattle.exact_num.proofs.unscaled.Unscaled.little.Goals as goal

pub returns : goal.returns
returns g c =
    let bound : SFits w128 c.read_int128.result = search rules in
    to_z-of_z w128 c.read_int128.result bound ∙ c.read_int128.ensures
    ∙ ap (λ (xs : List ℕ). twos_complement g.row.W (little_number g.row.W xs)) c.rest.ensures
    ∙ read_little c.args.bytes.now c.args.at g.row.W c.requires.least (λ k. omega (arith, c.type_inv.bytes k))
