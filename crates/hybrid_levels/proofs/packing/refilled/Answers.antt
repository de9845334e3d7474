use Rattle.std.proofs.Common.{◌≡◌, ◌∙◌, ◌<◌, sym, ap, subst, ℕ, ◌+◌, ◌*◌, ◌^◌, drop, slice_index, arith}
use Rattle.std.proofs.lemmas.Nat.{shl_whole}
use Rattle.vs_bytes.specs.PackedNumbers.{packed}
use Rattle.hybrid_levels.proofs.Packed.{taken_up, still_small}
use Rattle.hybrid_levels.proofs.packing.refilled.Goals as goal

pub loop-have-preserved : goal.loop-have-preserved
loop-have-preserved c =
    let width = c.args.width in
    let ns = c.args.numbers.now in
    let bits = c.loop-have.bits in
    let have = c.loop-have.have in
    let next = c.loop-have.next in
    let n = c.from.result in
    let is : n ≡ slice_index ns next = c.from.ensures in
    let fits : n < 2 ^ width = subst (λ (x : ℕ). x < 2 ^ width) (sym is) (c.requires.fit next) in
    let whole = shl_whole n width have 64 fits (omega (arith, c.requires.narrow, c.loop-have-test.true)) in
    record {
      same =
          ap (λ (x : ℕ). bits + x + 2 ^ (have + width) * packed width (drop (next + 1) ns)) whole
          ∙ taken_up width bits have next n ns (omega (arith, c.if-next-numbers.true)) is
          ∙ c.loop-have.invariant.same;
      small = subst (λ (x : ℕ). bits + x < 2 ^ (have + width)) (sym whole) (still_small width bits have n c.loop-have.invariant.small fits);
      few = omega (arith, c.requires.narrow, c.loop-have-test.true);
    }
