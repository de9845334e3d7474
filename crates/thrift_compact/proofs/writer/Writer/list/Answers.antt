use Rattle.std.proofs.Common.{refl, rules, to_z-of_z, SFits, w16}
use Rattle.thrift_compact.specs.Writers.{bytes_of, closing, finished, is_open, kind_left, last_of, left_of, outer_of}
use Rattle.thrift_compact.proofs.Written.{list_done}
use Rattle.thrift_compact.proofs.writer.Writer.list.Goals as goal

pub returns-in-Ok-clause-ok : goal.returns-in-Ok-clause-ok
unfolding bytes_of last_of kind_left left_of outer_of is_open finished
returns-in-Ok-clause-ok c =
    let self = c.args.self.now in
    let fits : SFits w16 c.args.id = search rules in
    let own = rw (to_z-of_z fits) at c.unsigned_abs.ensures.value in
    let ok = rw (to_z-of_z fits) at c.in-Ok.ensures.ok in
    record {
      bytes = λ vs fs rests m. rw own (list_done self.bytes.items c.append_list_start.new.into.items self.innermost.last c.args.id c.args.kind c.args.size ok vs fs (closing self.outer.items rests) m);
      last = own;
      kind_is = refl;
      left = refl;
      outer = refl;
      open_still = c.requires.open_struct;
    }
