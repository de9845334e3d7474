use Rattle.std.proofs.Common.{◌≡◌, take}
use Rattle.std.specs.List.{concat}
use Rattle.shelf.specs.Storage.{appended}
use Rattle.shelf.proofs.pieces.append_all.Given as goal

abbrev pub invariant-loop-piece : goal.invariant-loop-piece
invariant-loop-piece g l =
    g.S.Shelf.seen l.shelf
    ≡ record (g.S.Shelf.seen l.initial.shelf) { files = appended (g.S.Shelf.seen l.initial.shelf).files l.name (concat (take l.piece-index l.pieces)) }
