use Rattle.query_tree.specs.Asked.{query_of}
use Rattle.store_file.proofs.QueryWalks.{Wrote}
use Rattle.store_file.proofs.store_file.StoreFile.query.Given as goal

abbrev pub invariant-loop-k : goal.invariant-loop-k
invariant-loop-k g l = Wrote l.self (query_of l.query) (g.S.Shelf.seen l.initial.shelf) (g.S.Shelf.seen l.shelf) (g.O.Sink.seen l.initial.out) (g.O.Sink.seen l.out) l.k
