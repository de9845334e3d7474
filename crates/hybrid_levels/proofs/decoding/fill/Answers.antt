use Rattle.std.proofs.Common.{◌≡◌, ◌∙◌, ap, ℕ, min, length, take, drop, length-take, arith}
use Rattle.vs_bytes.specs.PackedNumbers.{unpacked, little}
use Rattle.hybrid_levels.specs.Hybrid.{content_count}
use Rattle.hybrid_levels.proofs.Unpacked.{groups_filled}
use Rattle.hybrid_levels.proofs.decoding.fill.Goals as goal

pub returns-else-header-eq0-clause-numbers : goal.returns-else-header-eq0-clause-numbers
returns-else-header-eq0-clause-numbers c =
    let count = c.min-count.result in
    let len = length c.args.into.now in
    let is : count ≡ min (content_count c.args.header) len = c.min-count.ensures ∙ ap (λ (n : ℕ). min n len) c.content_count.ensures in
    let size = length-take count c.args.into.now in
    let most : length (take count c.args.into.now) ≡ count = omega (arith, is, size) in
    groups_filled c.args.width c.args.header len count c.args.content.now c.unpack_groups.new.into (drop count c.args.into.now) c.if-header-eq0.false is
    (c.unpack_groups.ensures ∙ ap (λ (n : ℕ). unpacked c.args.width n (little c.args.content.now)) most)
