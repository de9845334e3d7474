use Rattle.std.proofs.Common.{◌≡◌, ◌∙◌, ap, List, ℕ, ◌*◌, ◌/◌, ◌%◌, ◌^◌, drop, arith}
use Rattle.vs_bytes.specs.PackedNumbers.{little}
use Rattle.vs_bytes.proofs.PackedNumbers.{same_field, place_is}
use Rattle.std.proofs.Math.Nat.{mul_comm}
use Rattle.hybrid_levels.proofs.Unpacked.{same_unpacked}
use Rattle.hybrid_levels.proofs.unpacking.four_from.Goals as goal

pub returns : goal.returns
returns c =
    let width = c.args.width in
    let place = c.args.place in
    let bytes = c.args.bytes.now in
    let word = c.low_bytes_wide-word.result in
    let size = c.div_ceil-size.result in
    let skipped = place % 8 in
    let behind = drop (place / 8) bytes in
    let low : word % 2 ^ (8 * size) ≡ little behind % 2 ^ (8 * size) =
    c.low_bytes_wide-word.ensures ∙ ap (λ (bs : List ℕ). little bs % 2 ^ (8 * size)) c.rest.ensures in
    let same : word / 2 ^ skipped % 2 ^ (4 * width) ≡ little bytes / 2 ^ place % 2 ^ (4 * width) =
    same_field word (little behind) (8 * size) skipped (4 * width) low (omega (arith, c.div_ceil-size.ensures))
    ∙ place_is bytes place (4 * width) (λ i. omega (arith, c.type_inv.bytes i)) in
    let turned = mul_comm width 4 in
    c.four_of_word.ensures ∙ same_unpacked (word / 2 ^ skipped) (little bytes / 2 ^ place) (4 * width) width 4 same (omega (arith, turned))
