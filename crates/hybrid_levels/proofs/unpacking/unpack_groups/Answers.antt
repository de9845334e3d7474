use Rattle.std.proofs.Common.{◌≡◌, ◌∙◌, ◌<◌, ap, List, ℕ, ◌-◌, min, length, drop, arith}
use Rattle.vs_bytes.specs.PackedNumbers.{unpacked, little}
use Rattle.hybrid_levels.proofs.Unpacked.{group_on, bytes_on, part_len}
use Rattle.hybrid_levels.proofs.unpacking.unpack_groups.Goals as goal

pub loop-filled-preserved : goal.loop-filled-preserved
loop-filled-preserved c =
    let width = c.args.width in
    let len = length c.args.into.now in
    let at = c.loop-filled.at in
    let filled = c.loop-filled.filled in
    let count = c.min.result in
    let bytes = c.args.bytes.now in
    let old = c.loop-filled.into in
    let new = c.unpack_group.new.into in
    let size : length old ≡ len = c.loop-filled.auto.into in
    let some : filled < len = omega (arith, c.loop-filled-test.true, size) in
    let few : count ≡ min (len - filled) 8 = c.min.ensures ∙ ap (λ (n : ℕ). min (n - filled) 8) size in
    let is : new ≡ unpacked width count (little (drop at bytes)) =
    c.unpack_group.ensures
    ∙ ap (λ (n : ℕ). unpacked width n (little c.rest.result.now)) (part_len filled count old (omega (arith, few, some, size)))
    ∙ ap (λ (bs : List ℕ). unpacked width count (little bs)) c.rest.ensures in
    record {
      numbers = group_on width len filled count at (little bytes) bytes old new c.loop-filled.invariant.numbers some size few (λ i. omega (arith, c.type_inv.bytes i)) is;
      there = bytes_on width len filled count at (length bytes) some few c.loop-filled.invariant.there;
      within = omega (arith, few, some);
    }
