use Rattle.std.proofs.Common.{◌≡◌, ◌∙◌, sym, ap, subst, List, ℕ, [], ◌++◌, ◌+◌, drop, append-nil, arith}
use Rattle.std.proofs.lemmas.List.{take_rest}
use Rattle.vs_bytes.proofs.Growing.{grows_on}
use Rattle.hybrid_levels.specs.Written.{piece, piece_count}
use Rattle.hybrid_levels.proofs.Pieces.{Left, none_written, one_written, all_written}
use Rattle.hybrid_levels.proofs.encoding.append_pieces.Goals as goal

pub loop-at-init : goal.loop-at-init
loop-at-init c = record {
  left = none_written c.args.width c.args.numbers.now c.args.into.now.items;
  grows = ([], sym (append-nil c.args.into.now.items));
}

pub loop-at-smaller : goal.loop-at-smaller
loop-at-smaller c = omega (arith, c.loop-at-test.true, c.in_ok-at.ensures.some)

pub loop-at-preserved : goal.loop-at-preserved
loop-at-preserved c =
    let width = c.args.width in
    let ns = c.args.numbers.now in
    let before = c.args.into.now.items in
    let now = c.loop-at.into.items in
    let next = c.append_piece.new.into.items in
    let at = c.loop-at.at in
    let rest = take_rest ns at in
    let is : next ≡ now ++ piece width (drop at ns) = c.in_ok-at.ensures.ok ∙ ap (λ (xs : List ℕ). now ++ piece width xs) rest in
    let count : c.in_ok-at.field-0 ≡ piece_count (drop at ns) = c.in_ok-at.ensures.count ∙ ap piece_count rest in
    record {
      left =
          subst (λ (k : ℕ). Left width ns (at + k) before next) (sym count)
          (one_written width ns at before now next (omega (arith, c.loop-at-test.true)) is c.loop-at.invariant.left);
      grows = grows_on before now next c.loop-at.invariant.grows c.in_ok-at.ensures.grows;
    }

pub returns-clause-ok : goal.returns-clause-ok
returns-clause-ok c =
    all_written c.args.width c.args.numbers.now c.loop-at.at c.args.into.now.items c.loop-at.into.items (omega (arith, c.loop-at-test.false)) c.loop-at.invariant.left
