use Rattle.std.proofs.Common.{◌∙◌, ◌+◌, ℕ, List, ◌++◌, take, ap, arith}
use Rattle.std.proofs.lemmas.List.{with_items_is}
use Rattle.memchr.specs.Find.{is_byte}
use Rattle.json_lines.specs.Buffer.{Buffered}
use Rattle.json_lines.proofs.Ranges.{range_same, range_grown, plain_same}
use Rattle.json_lines.proofs.read_buffer.Buffer.read.Goals as goal

pub invariant_of-self : goal.invariant_of-self
invariant_of-self g c =
    let b = c.self.inside in
    let is = with_items_is b.bytes c.read_at.new.bytes (omega arith) in
    let front = ap (take b.end) is ∙ c.in-Ok.ensures.before ∙ ap (take b.end) c.deref_mut.ensures.value in
    record {
      start = c.self.invariant.start;
      searched = omega arith;
      end = omega (arith, c.in-Ok.ensures.count, ap (λ (s : Buffered). s.free) c.self.view_is);
      piece = c.self.invariant.piece;
      plain = plain_same (is_byte 10) b.bytes.items _ b.start b.searched b.end c.self.invariant.searched front c.self.invariant.plain;
    }

pub invariant_of-self-in-Err : goal.invariant_of-self-in-Err
invariant_of-self-in-Err g c =
    let b = c.self.inside in
    let is = with_items_is b.bytes c.read_at.new.bytes (omega arith) in
    let front = ap (take b.end) is ∙ c.in-Err.ensures.before ∙ ap (take b.end) c.deref_mut.ensures.value in
    record {
      start = c.self.invariant.start;
      searched = c.self.invariant.searched;
      end = c.self.invariant.end;
      piece = c.self.invariant.piece;
      plain = plain_same (is_byte 10) b.bytes.items _ b.start b.searched b.end c.self.invariant.searched front c.self.invariant.plain;
    }

pub returns-in-Err-clause-reads : goal.returns-in-Err-clause-reads
returns-in-Err-clause-reads g c =
    let b = c.self.inside in
    let is = with_items_is b.bytes c.read_at.new.bytes (omega arith) in
    let front = ap (take b.end) is ∙ c.in-Err.ensures.before ∙ ap (take b.end) c.deref_mut.ensures.value in
    let held = range_same b.bytes.items _ b.start b.end (omega arith) front ∙ ap (λ (s : Buffered). s.held) c.self.view_is in
    (held, c.in-Err.ensures.reads)

pub returns-in-Ok-clause-reads : goal.returns-in-Ok-clause-reads
returns-in-Ok-clause-reads g c =
    let b = c.self.inside in
    let is = with_items_is b.bytes c.read_at.new.bytes (omega arith) in
    let gains = c.in-Ok.ensures.reads in
    let grown = ap (take (b.end + c.in-Ok.count)) is ∙ gains.grown ∙ ap (λ (s : List ℕ). take b.end s ++ gains.bytes) c.deref_mut.ensures.value in
    record {
      bytes = gains.bytes;
      grown = range_grown b.bytes.items _ gains.bytes b.start b.end c.in-Ok.count (omega arith) (omega arith) grown ∙ ap (λ (s : Buffered). s.held ++ gains.bytes) c.self.view_is;
      size = gains.size;
      taken = gains.taken;
      end = gains.end;
      calm = gains.calm;
    }
