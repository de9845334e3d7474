use Rattle.std.proofs.Common.{◌≡◌, ◌+◌, length, ◌≤◌, arith}
use Rattle.store_file.specs.FileCalls.{groups_in}
use Rattle.store_file.proofs.CheckWalks.{judged_none, judged_more, judged_all, judged_lost, judged_stops}
use Rattle.store_file.proofs.store_file.StoreFile.check.Goals as goal

pub loop-k-init : goal.loop-k-init
loop-k-init g c = judged_none c.args.self.now (g.S.Shelf.seen c.args.shelf.now)

pub returns-in-None : goal.returns-in-None
returns-in-None g c =
    judged_lost c.args.self.now (g.S.Shelf.seen c.args.shelf.now) (g.S.Shelf.seen c.loop-k.shelf) (g.S.Shelf.seen c.count_group.new.shelf)
    c.loop-k.k c.loop-k.rows c.in-Ok.count c.at.result.now c.at.ensures c.loop-k.invariant c.in-Ok.ensures

pub returns-in-Err : goal.returns-in-Err
returns-in-Err g c =
    judged_stops c.args.self.now (g.S.Shelf.seen c.args.shelf.now) (g.S.Shelf.seen c.loop-k.shelf) (g.S.Shelf.seen c.count_group.new.shelf)
    c.loop-k.k c.loop-k.rows c.at.result.now c.in-Err.stop c.fault_of.result c.at.ensures c.loop-k.invariant c.in-Err.ensures c.fault_of.ensures

pub loop-k-preserved : goal.loop-k-preserved
loop-k-preserved g c =
    let sum : c.in-Some.sum ≡ c.loop-k.rows + c.in-Ok.count = omega (arith, c.in-Some.ensures) in
    judged_more c.args.self.now (g.S.Shelf.seen c.args.shelf.now) (g.S.Shelf.seen c.loop-k.shelf) (g.S.Shelf.seen c.count_group.new.shelf)
    c.loop-k.k c.loop-k.rows c.in-Ok.count c.in-Some.sum c.at.result.now c.at.ensures c.loop-k.invariant c.in-Ok.ensures sum

pub returns : goal.returns
returns g c =
    let past : length (groups_in c.args.self.now) ≤ c.loop-k.k = omega (arith, c.loop-k-test.false, c.len-k-end.ensures) in
    judged_all c.args.self.now (g.S.Shelf.seen c.args.shelf.now) (g.S.Shelf.seen c.loop-k.shelf) c.loop-k.k c.loop-k.rows c.len.result c.loop-k.invariant past c.len.ensures
