use Rattle.std.proofs.Common.{refl, rules, to_z-of_z, SFits, w16}
use Rattle.thrift_compact.specs.Writers.{bytes_of, closing, finished, is_open, kind_left, last_of, left_of, outer_of}
use Rattle.thrift_compact.proofs.Written.{field_done}
use Rattle.thrift_compact.proofs.writer.Writer.field.Goals as goal

pub returns-in-Ok-clause-ok : goal.returns-in-Ok-clause-ok
unfolding bytes_of last_of kind_left left_of outer_of is_open finished
returns-in-Ok-clause-ok g c =
    let self = c.args.self.now in
    let fits : SFits w16 c.args.id = search rules in
    let own = rw (to_z-of_z fits) at c.unsigned_abs-self.ensures.value in
    let ok = rw (to_z-of_z fits) at c.in-Ok.ensures.ok in
    record {
      bytes = λ fs rests. rw own (field_done self.bytes.items c.append_field.new.into.items self.innermost.last c.args.id (g.C.Code.tree c.args.value.now) ok fs (closing self.outer.items rests));
      last = own;
      left = c.requires.no_list;
      outer = refl;
      open_still = c.requires.open_struct;
    }
