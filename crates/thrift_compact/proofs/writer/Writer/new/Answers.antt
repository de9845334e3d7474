use Rattle.thrift_compact.specs.Writers.{bytes_of, finished, is_open, kind_left, last_of, left_of, outer_of}
use Rattle.thrift_compact.proofs.Written.{fresh}
use Rattle.thrift_compact.proofs.writer.Writer.new.Goals as goal

pub returns-clause-start : goal.returns-clause-start
unfolding bytes_of last_of kind_left left_of outer_of is_open finished
returns-clause-start c = λ fs. rw (c.new.ensures.items, c.new-2.ensures.items) (fresh fs)
