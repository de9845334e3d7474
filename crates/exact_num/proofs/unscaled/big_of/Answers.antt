use Rattle.std.proofs.Common.{◌∙◌, length, arith, rules, SFits}
use Rattle.std.proofs.lemmas.Int.{to_z-of_z}
use Rattle.std.specs.Int.{w128}
use Rattle.exact_num.proofs.TwosComplement.{read_big}
use Rattle.exact_num.proofs.unscaled.big_of.Goals as goal

pub returns : goal.returns
returns c =
    let bound : SFits w128 c.read_int128.result = search rules in
    to_z-of_z w128 c.read_int128.result bound ∙ c.read_int128.ensures
    ∙ read_big c.args.bytes.now 0 (length c.args.bytes.now) c.requires.least (omega arith) (λ k. omega (arith, c.type_inv.bytes k))
