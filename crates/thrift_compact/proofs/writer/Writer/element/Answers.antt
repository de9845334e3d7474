use Rattle.std.proofs.Common.{refl, ◌++◌}
use Rattle.thrift_compact.specs.Coded.{fields_coded}
use Rattle.thrift_compact.specs.Writers.{bytes_of, closing, finished, is_open, kind_left, last_of, left_of, outer_of}
use Rattle.thrift_compact.proofs.Written.{element_done}
use Rattle.thrift_compact.proofs.writer.Writer.element.Goals as goal

pub returns-in-Ok-clause-ok : goal.returns-in-Ok-clause-ok
unfolding bytes_of last_of kind_left left_of outer_of is_open finished
returns-in-Ok-clause-ok g c =
    let self = c.args.self.now in
    record {
      bytes = λ vs fs rests. element_done self.bytes.items c.write.new.into.items (g.C.Code.tree c.args.value.now) c.in-Ok.ensures.ok vs (fields_coded self.innermost.last fs ++ closing self.outer.items rests);
      last = refl;
      kind = refl;
      left = refl;
      outer = refl;
      open_still = c.requires.open_struct;
    }
