use Rattle.std.proofs.Common.{◌≡◌, ◌∙◌, ◌⊎◌, inl, inr, ◌≤◌, ◌<◌, sym, ap, subst, ℕ, ◌+◌, ◌*◌, ◌/◌, ◌^◌, length, drop, arith}
use Rattle.std.proofs.lemmas.List.{drop_all}
use Rattle.vs_bytes.specs.PackedNumbers.{packed}
use Rattle.hybrid_levels.proofs.Packed.{byte_off, byte_on, fewer_left}
use Rattle.hybrid_levels.proofs.packing.pack.Goals as goal

pub loop-i-preserved : goal.loop-i-preserved
loop-i-preserved c =
    let width = c.args.width in
    let ns = c.args.numbers.now in
    let len = length c.args.into.now in
    let filled = c.refilled-filled.result in
    let rest = packed width (drop filled.next ns) in
    let behind = packed width (drop c.loop-i.waiting.next ns) in
    let left = c.saturating_sub.ensures in
    let reach : (8 ≤ filled.have) ⊎ (rest ≡ 0) = elim c.refilled-filled.ensures.enough [ inl h ↦ inl h | inr h ↦ inr (ap (packed width) (drop_all filled.next ns h)) ] in
    let off = byte_off filled.bits filled.have rest reach in
    record {
      bytes = byte_on len c.loop-i.i (c.loop-i.waiting.bits + 2 ^ c.loop-i.waiting.have * behind) (filled.bits + 2 ^ filled.have * rest) (filled.bits / 256 + 2 ^ c.saturating_sub.result * rest) _ (packed width ns) c.loop-i.into
          c.loop-i.invariant.bytes (omega (arith, c.loop-i-test.true, c.loop-i.auto.into)) c.loop-i.auto.into c.refilled-filled.ensures.same
          (sym off.0) (ap (λ (x : ℕ). filled.bits / 256 + 2 ^ x * rest) left ∙ sym off.1);
      small = subst (λ (x : ℕ). filled.bits / 256 < 2 ^ x) (sym left) (fewer_left filled.bits filled.have c.refilled-filled.ensures.small);
      few = let h = c.refilled-filled.ensures.few in omega (arith, h, left);
    }
