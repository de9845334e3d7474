use Rattle.std.proofs.Common.{◌∙◌, ap, List, ℕ, [], ◌∷◌, ◌++◌, ◌+◌, ◌-◌, ◌*◌, ◌/◌, length, drop, map, arith}
use Rattle.vs_bytes.specs.PackedNumbers.{unpacked, packed}
use Rattle.vs_bytes.specs.declared.leaf_columns.Cell.{Cell}
use Rattle.vs_bytes.proofs.Growing.{grows_on}
use Rattle.plain_values.specs.Written.{bit}
use Rattle.plain_values.proofs.Bits.{of_byte, byte_on}
use Rattle.plain_values.proofs.encoding.append_booleans.Goals as goal

pub loop-i-preserved : goal.loop-i-preserved
loop-i-preserved c =
    let cs = c.args.cells.now in
    let groups = (length cs + 7) / 8 in
    let i = c.loop-i.i in
    let now = c.loop-i.into.items in
    let byte = c.byte_of.result in
    let left = unpacked 8 (groups - (i + 1)) (packed 1 (map bit (drop (8 * (i + 1)) cs))) in
    let less = c.loop-i-test.true in
    let end = c.loop-i.auto.i-end in
    let size = c.div_ceil-i-end.ensures in
    record {
      bytes =
          ap (λ (xs : List ℕ). xs ++ left) c.in_ok-push.ensures.items
          ∙ byte_on groups i byte cs now (omega (arith, less, size, end)) (c.byte_of.ensures ∙ ap (λ (xs : List Cell). packed 1 (map bit xs)) (of_byte i c.min-end.result cs c.min-end.ensures))
          ∙ c.loop-i.invariant.bytes;
      grows = grows_on c.args.into.now.items now c.push.new.self.items c.loop-i.invariant.grows (byte ∷ [], c.in_ok-push.ensures.items);
    }
