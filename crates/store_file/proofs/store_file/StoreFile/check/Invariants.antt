use Rattle.store_file.proofs.CheckWalks.{Judged}
use Rattle.store_file.proofs.store_file.StoreFile.check.Given as goal

abbrev pub invariant-loop-k : goal.invariant-loop-k
invariant-loop-k g l = Judged l.self (g.S.Shelf.seen l.initial.shelf) (g.S.Shelf.seen l.shelf) l.k l.rows
