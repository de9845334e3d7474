use Rattle.std.proofs.Common.{◌∙◌, sym, ap, ℕ, List, [], ◌∷◌, ◌++◌, ◌+◌, ◌-◌, ◌/◌, ◌%◌, append_assoc, arith}
use Rattle.hybrid_levels.specs.Written.{varint_bytes}
use Rattle.hybrid_levels.proofs.Packed.{varint_more}
use Rattle.hybrid_levels.proofs.encoding.+append_varint.Goals as goal

pub returns-clause-ok : goal.returns-clause-ok
returns-clause-ok t c =
    let before = c.args.into.now.items in
    let n = c.args.number in
    let behind = varint_bytes (c.args.most - 1) (n / 128) in
    c.in_ok-append_varint.ensures.ok
    ∙ ap (λ (xs : List ℕ). xs ++ behind) c.in_ok-push-2.ensures.items
    ∙ append_assoc before ((128 + n % 128) ∷ []) behind
    ∙ sym (ap (λ (xs : List ℕ). before ++ xs) (varint_more c.args.most n (omega (arith, c.if-most-eq0.false)) c.if-number-lt128.false))
