use Rattle.std.proofs.Common.{◌∙◌, ap, List, ℕ, length, take}
use Rattle.vs_bytes.specs.PackedNumbers.{little}
use Rattle.vs_bytes.proofs.PackedNumbers.{take_unpacked}
use Rattle.hybrid_levels.proofs.unpacking.unpack_group.Goals as goal

pub returns-else-len-eq8 : goal.returns-else-len-eq8
returns-else-len-eq8 c =
    let len = length c.args.into.now in
    c.copy_from_slice-else-len-eq8.ensures.after
    ∙ ap (λ (xs : List ℕ). take len xs) c.eight-else-len-eq8.ensures
    ∙ take_unpacked c.args.width len 8 (little c.args.bytes.now) c.requires.few
