use Rattle.std.proofs.Common.{refl, sym, rules, to_z-of_z, SFits, w16}
use Rattle.thrift_compact.specs.Writers.{bytes_of, finished, is_open, kind_left, last_of, left_of, outer_of}
use Rattle.thrift_compact.specs.declared.writer.Open.{Open}
use Rattle.thrift_compact.proofs.Written.{begin_done}
use Rattle.thrift_compact.proofs.writer.Writer.begin.Goals as goal

pub returns-in-Ok-clause-ok : goal.returns-in-Ok-clause-ok
unfolding bytes_of last_of kind_left left_of outer_of is_open finished
returns-in-Ok-clause-ok c =
    let self = c.args.self.now in
    let fits : SFits w16 c.args.id = search rules in
    let own = rw (to_z-of_z fits) at c.unsigned_abs.ensures.value in
    let ok = rw (to_z-of_z fits) at c.in-Ok.ensures.ok in
    let around : Open = record { last = c.unsigned_abs.result; kind = self.innermost.kind; left = 0 } in
    let held = c.in-Ok.ensures.held in
    record {
      bytes = λ inner fs rests h. rw held (begin_done self.bytes.items c.append_begin.new.into.items self.innermost.last c.args.id around self.outer.items own ok inner fs rests h);
      last = refl;
      left = refl;
      outer = rw (sym own) held;
      open_still = c.requires.open_struct;
    }
