use Rattle.std.proofs.Common.{refl}
use Rattle.json_tree.specs.View.{view}
use Rattle.store_write.specs.Writers.{broken_by}
use Rattle.store_write.proofs.Steps.{pushing}
use Rattle.document_loading.proofs.TakingRows.{takes_row, stays, can_be_row}
use Rattle.document_loading.proofs.loader.LoaderTaker.take.Goals as goal

pub push-requires-clause-row : goal.push-requires-clause-row
push-requires-clause-row g c = can_be_row (view c.args.document.now) c.requires.document

pub returns-clause-takes : goal.returns-clause-takes
returns-clause-takes g c = λ start first documents took.
    takes_row (g.S.Shelf.seen first) (g.S.Shelf.seen c.args.shelf.now) (g.S.Shelf.seen c.push.new.shelf) start.writer c.args.self.now.writer c.push.new.self documents (view c.args.document.now) c.push.result took
    (pushing g.S.Shelf.seen c.args.shelf.now c.push.new.shelf c.args.self.now.writer c.push.new.self _ c.push.result (broken_by c.args.self.now.writer) refl c.requires.ready c.push.ensures.broken c.push.ensures.adds c.push.ensures.form)

pub returns-clause-goes_on : goal.returns-clause-goes_on
returns-clause-goes_on g c = stays (g.S.Shelf.seen c.args.shelf.now) (g.S.Shelf.seen c.push.new.shelf) c.args.self.now.writer c.push.new.self _ c.push.result
    (pushing g.S.Shelf.seen c.args.shelf.now c.push.new.shelf c.args.self.now.writer c.push.new.self _ c.push.result (broken_by c.args.self.now.writer) refl c.requires.ready c.push.ensures.broken c.push.ensures.adds c.push.ensures.form)
