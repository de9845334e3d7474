use Rattle.std.proofs.Common.{length, ◌≤◌, arith}
use Rattle.query_tree.specs.Asked.{query_of}
use Rattle.store_file.specs.FileCalls.{groups_in}
use Rattle.store_file.proofs.QueryWalks.{wrote_none, wrote_more, wrote_all, wrote_refused, wrote_stops}
use Rattle.store_file.proofs.store_file.StoreFile.query.Goals as goal

pub loop-k-init : goal.loop-k-init
loop-k-init g c = wrote_none c.args.self.now (query_of c.args.query.now) (g.S.Shelf.seen c.args.shelf.now) (g.O.Sink.seen c.args.out.now)

pub returns-in-Err-write_all : goal.returns-in-Err-write_all
returns-in-Err-write_all g c =
    wrote_refused c.args.self.now (query_of c.args.query.now) (g.S.Shelf.seen c.args.shelf.now) (g.S.Shelf.seen c.loop-k.shelf) (g.S.Shelf.seen c.read_lines.new.shelf)
    (g.O.Sink.seen c.args.out.now) (g.O.Sink.seen c.loop-k.out) (g.O.Sink.seen c.write_all.new.sink)
    c.loop-k.k c.at.result.now c.in-Ok-read_lines.lines.items c.as_slice.result.now c.in-Err-write_all.fault c.write_fault.result
    c.at.ensures c.loop-k.invariant c.in-Ok-read_lines.ensures c.as_slice.ensures.value c.in-Err-write_all.ensures.writes c.write_fault.ensures

pub returns-in-Err-read_lines : goal.returns-in-Err-read_lines
returns-in-Err-read_lines g c =
    wrote_stops c.args.self.now (query_of c.args.query.now) (g.S.Shelf.seen c.args.shelf.now) (g.S.Shelf.seen c.loop-k.shelf) (g.S.Shelf.seen c.read_lines.new.shelf)
    (g.O.Sink.seen c.args.out.now) (g.O.Sink.seen c.loop-k.out)
    c.loop-k.k c.at.result.now c.in-Err-read_lines.stop c.fault_of.result
    c.at.ensures c.loop-k.invariant c.in-Err-read_lines.ensures c.fault_of.ensures

pub loop-k-preserved : goal.loop-k-preserved
loop-k-preserved g c =
    wrote_more c.args.self.now (query_of c.args.query.now) (g.S.Shelf.seen c.args.shelf.now) (g.S.Shelf.seen c.loop-k.shelf) (g.S.Shelf.seen c.read_lines.new.shelf)
    (g.O.Sink.seen c.args.out.now) (g.O.Sink.seen c.loop-k.out) (g.O.Sink.seen c.write_all.new.sink)
    c.loop-k.k c.at.result.now c.in-Ok-read_lines.lines.items c.as_slice.result.now
    c.at.ensures c.loop-k.invariant c.in-Ok-read_lines.ensures c.as_slice.ensures.value c.in-Ok-write_all.ensures.writes

pub returns : goal.returns
returns g c =
    let past : length (groups_in c.args.self.now) ≤ c.loop-k.k = omega (arith, c.loop-k-test.false, c.len-k-end.ensures) in
    wrote_all c.args.self.now (query_of c.args.query.now) (g.S.Shelf.seen c.args.shelf.now) (g.S.Shelf.seen c.loop-k.shelf) (g.O.Sink.seen c.args.out.now) (g.O.Sink.seen c.loop-k.out) c.loop-k.k c.loop-k.invariant past
