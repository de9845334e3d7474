use Rattle.store_read.proofs.Reading.{chunk_read, chunk_refused}
use Rattle.store_read.proofs.leaf_chunks.read_leaf.Goals as goal

pub returns-in-Ok-clause-read : goal.returns-in-Ok-clause-read
returns-in-Ok-clause-read g c = chunk_read (g.S.Shelf.seen c.args.shelf.now) (g.S.Shelf.seen c.read_range.new.shelf) c.args.name.now c.args.end c.args.rows c.values_in-values.result c.args.leaf.now c.args.chunk.now c.in-Ok.range c.read_range.result c.in-Ok.ensures.exact c.values_in-values.ensures c.read_range.ensures.read

pub returns-in-Err-clause-read : goal.returns-in-Err-clause-read
returns-in-Err-clause-read g c = chunk_refused (g.S.Shelf.seen c.args.shelf.now) c.args.name.now c.args.end c.args.rows c.args.leaf.now c.args.chunk.now c.in-Err.rule c.in-Err.ensures.exact
