use Rattle.std.proofs.Common.{refl, ◌-◌}
use Rattle.thrift_compact.specs.Writers.{bytes_of, finished, is_open, kind_left, last_of, left_of, outer_of}
use Rattle.thrift_compact.specs.declared.writer.Open.{Open}
use Rattle.thrift_compact.proofs.Written.{item_done}
use Rattle.thrift_compact.proofs.writer.Writer.begin_item.Goals as goal

pub returns-clause-ok : goal.returns-clause-ok
unfolding bytes_of last_of kind_left left_of outer_of is_open finished
returns-clause-ok c =
    let self = c.args.self.now in
    let around : Open = record { last = self.innermost.last; kind = self.innermost.kind; left = self.innermost.left - 1 } in
    record {
      bytes = λ inner vs fs rests h. rw c.in_ok-push.ensures.items (item_done self.bytes.items around self.outer.items inner vs fs rests h);
      last = refl;
      left = refl;
      outer = c.in_ok-push.ensures.items;
      open_still = c.requires.open_struct;
    }
