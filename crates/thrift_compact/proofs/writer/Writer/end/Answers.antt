use Rattle.std.proofs.Common.{refl, ap, ◌≡◌, Some}
use Rattle.thrift_compact.specs.Writers.{bytes_of, finished, is_open, kind_left, last_of, left_of, outer_of}
use Rattle.thrift_compact.specs.declared.writer.Open.{Open}
use Rattle.thrift_compact.proofs.Written.{end_done, stop_done}
use Rattle.thrift_compact.proofs.writer.Writer.end.Goals as goal

pub returns-in-Some-clause-inner : goal.returns-in-Some-clause-inner
unfolding bytes_of last_of kind_left left_of outer_of is_open finished
returns-in-Some-clause-inner c = λ outer around e.
    let self = c.args.self.now in
    let got = c.in-Some.ensures.inner outer around e in
    let found : Some c.in-Some.around ≡ Some around = got.0 in
    let same : c.in-Some.around ≡ around = cc in
    record {
      bytes = λ vs fs rests h. rw (c.in_ok-push.ensures.items, got.1, same, e) (end_done self.bytes.items self.innermost.last around outer vs fs rests h);
      last = ap (λ (o : Open). o.last) same;
      kind = ap (λ (o : Open). o.kind) same;
      left = ap (λ (o : Open). o.left) same;
      outer_is = got.1;
      open_still = c.requires.open_struct;
    }

pub returns-in-None-clause-outermost : goal.returns-in-None-clause-outermost
unfolding bytes_of last_of kind_left left_of outer_of is_open finished
returns-in-None-clause-outermost c = λ e.
    let self = c.args.self.now in
    record {
      bytes = rw (c.in_ok-push.ensures.items, e) (stop_done self.bytes.items self.innermost.last);
      closed = refl;
    }
