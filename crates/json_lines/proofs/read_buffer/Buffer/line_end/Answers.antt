use Rattle.std.proofs.Common.{◌≡◌, ◌+◌, ◌-◌, ◌≤◌, ℕ, List, Some, None, length, subst, arith}
use Rattle.std.specs.List.{slice_range}
use Rattle.memchr.specs.Find.{IsFirstByte, is_byte}
use Rattle.json_lines.specs.Buffer.{Buffered}
use Rattle.json_lines.proofs.Ranges.{range_length, plain_more, first_held, none_searched, none_held}
use Rattle.json_lines.proofs.read_buffer.Buffer.line_end.Goals as goal

pub invariant_of-self : goal.invariant_of-self
invariant_of-self c =
    let b = c.self.inside in
    let xs = b.bytes.items in
    let within : b.end ≤ length xs = omega arith in
    let first = subst (λ (s : List ℕ). IsFirstByte (is_byte 10) (slice_range s b.searched b.end) (Some c.in-Some.at)) c.deref.ensures.value c.in-Some.ensures in
    let size : length (slice_range xs b.searched b.end) ≡ b.end - b.searched = range_length xs b.searched b.end within in
    let inside : b.searched + c.in-Some.at ≤ b.end = omega (arith, first.0.high) in
    let more = plain_more (is_byte 10) xs b.start b.searched b.end c.in-Some.at inside c.self.invariant.plain first.0.before in
    record { start = omega arith; searched = inside; end = c.self.invariant.end; piece = c.self.invariant.piece; plain = more }

pub invariant_of-self-in-None : goal.invariant_of-self-in-None
invariant_of-self-in-None c =
    let b = c.self.inside in
    let xs = b.bytes.items in
    let within : b.end ≤ length xs = omega arith in
    let none = subst (λ (s : List ℕ). IsFirstByte (is_byte 10) (slice_range s b.searched b.end) None) c.deref.ensures.value c.in-None.ensures in
    record {
      start = omega arith;
      searched = omega arith;
      end = c.self.invariant.end;
      piece = c.self.invariant.piece;
      plain = none_searched (is_byte 10) xs b.start b.searched b.end c.self.invariant.searched within c.self.invariant.plain none;
    }

pub returns-in-Some-clause-first : goal.returns-in-Some-clause-first
returns-in-Some-clause-first c =
    let b = c.self.inside in
    let xs = b.bytes.items in
    let within : b.end ≤ length xs = omega arith in
    let first = subst (λ (s : List ℕ). IsFirstByte (is_byte 10) (slice_range s b.searched b.end) (Some c.in-Some.at)) c.deref.ensures.value c.in-Some.ensures in
    subst (λ (s : Buffered). IsFirstByte (is_byte 10) s.held (Some (b.searched + c.in-Some.at - b.start))) c.self.view_is
    (first_held (is_byte 10) xs b.start b.searched b.end c.in-Some.at c.self.invariant.start c.self.invariant.searched within c.self.invariant.plain first)

pub returns-in-None-clause-first : goal.returns-in-None-clause-first
returns-in-None-clause-first c =
    let b = c.self.inside in
    let xs = b.bytes.items in
    let within : b.end ≤ length xs = omega arith in
    let none = subst (λ (s : List ℕ). IsFirstByte (is_byte 10) (slice_range s b.searched b.end) None) c.deref.ensures.value c.in-None.ensures in
    subst (λ (s : Buffered). IsFirstByte (is_byte 10) s.held None) c.self.view_is
    (none_held (is_byte 10) xs b.start b.searched b.end c.self.invariant.searched within c.self.invariant.plain none)
