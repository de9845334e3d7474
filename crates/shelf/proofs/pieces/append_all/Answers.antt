use Rattle.std.proofs.Common.{◌∙◌, ap, sym, subst, take, drop, ◌+◌, List, ℕ, Err}
use Rattle.std.specs.List.{concat}
use Rattle.shelf.specs.Storage.{Has, Storage, appended}
use Rattle.shelf.specs.Calls.{Adds}
use Rattle.shelf.proofs.Appending.{has_appended}
use Rattle.shelf.proofs.Adding.{adds_none, adds_more, adds_later, concat_more, concat_round}
use Rattle.shelf.proofs.pieces.append_all.Goals as goal

pub loop-piece-init : goal.loop-piece-init
loop-piece-init g c = adds_none (g.S.Shelf.seen c.args.shelf.now) c.args.name.now c.requires.there

pub append-requires : goal.append-requires
append-requires g c =
    record {
      there = subst (λ (s : Storage). Has s.files c.args.name.now) (sym c.loop-piece.invariant)
          (has_appended (g.S.Shelf.seen c.args.shelf.now).files c.args.name.now (concat (take c.loop-piece.piece-index c.args.pieces.now)));
    }

pub returns-in-Err : goal.returns-in-Err
returns-in-Err g c =
    let i = c.loop-piece.piece-index in
    let first = g.S.Shelf.seen c.args.shelf.now in
    let piece = c.piece-item.result in
    record {
      adds = subst (λ (s : List ℕ). Adds first (g.S.Shelf.seen c.append.new.self) c.args.name.now s (Err c.in-Err.refused))
          (sym (concat_round c.args.pieces.now i piece c.loop-piece-test.true c.piece-item.is))
          (adds_later first (g.S.Shelf.seen c.loop-piece.shelf) (g.S.Shelf.seen c.append.new.self) c.args.name.now (concat (take i c.args.pieces.now)) piece
          (concat (drop (i + 1) c.args.pieces.now)) c.in-Err.refused c.loop-piece.invariant
          (subst (λ (s : List ℕ). Adds (g.S.Shelf.seen c.loop-piece.shelf) (g.S.Shelf.seen c.append.new.self) c.args.name.now s (Err c.in-Err.refused)) c.as_slice.ensures c.in-Err.ensures.adds));
    }

pub loop-piece-preserved : goal.loop-piece-preserved
loop-piece-preserved g c =
    let i = c.loop-piece.piece-index in
    let first = g.S.Shelf.seen c.args.shelf.now in
    let before = g.S.Shelf.seen c.loop-piece.shelf in
    adds_more first before (g.S.Shelf.seen c.append.new.self) c.args.name.now (concat (take i c.args.pieces.now)) c.piece-item.result c.loop-piece.invariant
    (c.in-Ok.ensures.adds ∙ ap (λ (s : List ℕ). record before { files = appended before.files c.args.name.now s }) c.as_slice.ensures)
    ∙ ap (λ (s : List ℕ). record first { files = appended first.files c.args.name.now s }) (sym (concat_more c.args.pieces.now i c.piece-item.result c.loop-piece-test.true c.piece-item.is))
