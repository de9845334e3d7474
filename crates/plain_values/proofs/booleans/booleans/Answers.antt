use Rattle.std.proofs.Common.{◌∙◌, ap, List, ◌++◌, ◌+◌, ◌-◌, ◌/◌, ◌^◌, map, Bool, arith}
use Rattle.vs_bytes.specs.PackedNumbers.{unpacked, little}
use Rattle.vs_bytes.specs.declared.leaf_columns.Cell.{Cell}
use Rattle.vs_bytes.specs.declared.leaf_columns.Cell.TheVariants as cell
use Rattle.plain_values.specs.Plain.{truth}
use Rattle.plain_values.proofs.Bits.{bit_on}
use Rattle.plain_values.proofs.booleans.booleans.Goals as goal

pub loop-place-preserved : goal.loop-place-preserved
loop-place-preserved c =
    let n = little c.args.bytes.now in
    let place = c.loop-place.place in
    let left = map truth (unpacked 1 (c.args.count - (place + 1)) (n / 2 ^ (place + 1))) in
    ap (λ (cs : List Cell). cs ++ left) c.in-Ok-push.ensures.ok
    ∙ bit_on c.args.count place n c.loop-place.found (cell.Bool c.truth_at.result) (omega (arith, c.loop-place-test.true)) (ap (λ (b : Bool). cell.Bool b) c.truth_at.ensures)
    ∙ c.loop-place.invariant
