use Rattle.std.proofs.Common.{◌<◌, length, arith}
use Rattle.std.proofs.lemmas.List.Sorted.{IsPermutation-swap}
use Rattle.unshredder.proofs.places.change_places.Goals as goal

pub returns-then-b-len : goal.returns-then-b-len
returns-then-b-len c =
    let first : c.args.a < length c.args.pairs.now.items = omega (arith, c.if-a-len.true, c.len.ensures) in
    let second : c.args.b < length c.args.pairs.now.items = omega (arith, c.if-b-len.true, c.len-then-a-len.ensures) in
    IsPermutation-swap c.args.pairs.now.items c.swap.new.self.items c.args.a c.args.b first second c.swap.ensures.items
