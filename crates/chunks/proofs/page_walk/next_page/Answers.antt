use Rattle.std.proofs.Common.{◌≡◌, ◌∙◌, ◌≤◌, sym, ap, ◌+◌, ◌-◌, List, length, drop, length-drop, Option, None, Ok, arith}
use Rattle.vs_bytes.specs.declared.leaf_columns.Entry.{Entry}
use Rattle.chunks.specs.Turns.{page_at}
use Rattle.chunks.proofs.PagesInTurn.{passed}
use Rattle.chunks.proofs.page_walk.next_page.Goals as goal

pub loop-at-preserved : goal.loop-at-preserved
loop-at-preserved c =
    let bytes = c.args.bytes.now in
    let at = c.loop-at.at in
    let used = c.in-Ok.used in
    let leaf = c.args.leaf.now in
    let before : c.args.from ≤ at = c.loop-at.invariant.before in
    let rest_len : length c.rest.result.now ≡ length bytes - at = ap length c.rest.ensures ∙ length-drop at bytes in
    let inside : at + used ≤ length bytes = omega (arith, c.in-Ok.ensures.within, rest_len, c.loop-at.invariant.inside) in
    let gave : page_at leaf (drop at bytes) ≡ Ok (None, used) =
    ap (page_at leaf) (sym c.rest.ensures) ∙ c.in-Ok.ensures.exact ∙ ap (λ (page : Option (List Entry)). Ok (page, used)) c.in-None.is in
    record {
      ahead = passed leaf c.args.left bytes c.args.from at c.loop-at.invariant.ahead c.loop-at-test.true used c.in-Ok.ensures.least inside gave;
      before = omega (arith, before);
      inside = inside;
    }
