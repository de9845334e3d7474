use Rattle.std.proofs.Common.{◌∙◌, ◌+◌, ◌≤◌, length, length-append, ap, arith, sym}
use Rattle.std.proofs.lemmas.Bool.{true≢false}
use Rattle.json_lines.specs.Next.{State}
use Rattle.json_lines.proofs.Taking.{from_blank, from_read, arrives_line, arrives_long, arrives_over, arrives_last, arrives_failed}
use Rattle.json_lines.proofs.line_reader.Lines.find_next.Goals as goal

pub returns-in-Line-clause-arrives : goal.returns-in-Line-clause-arrives
returns-in-Line-clause-arrives g c = λ rest e.
    let b = c.in-Line.ensures.passes in
    arrives_line _ _ _ rest _ c.in-Line.at c.give.result (from_blank _ _ _ rest _ (c.loop-at.invariant.passed rest e) b.passed) (b.kept ∙ c.loop-at.invariant.kept) b.within b.shows b.given c.give.ensures

pub returns-in-Long-clause-arrives : goal.returns-in-Long-clause-arrives
returns-in-Long-clause-arrives g c = λ rest e.
    let b = c.in-Long.ensures.passes in
    arrives_long _ _ rest _ _ (from_blank _ _ _ rest _ (c.loop-at.invariant.passed rest e) b.passed) b.within b.shows (omega (arith, ap (λ (u : State). u.number) c.self.view_is))

pub returns-in-Over-clause-arrives : goal.returns-in-Over-clause-arrives
returns-in-Over-clause-arrives g c = λ rest e.
    let b = c.in-Over.ensures.passes in
    arrives_over _ _ rest _ (from_blank _ _ _ rest _ (c.loop-at.invariant.passed rest e) b.passed) b.within b.shows

pub returns-in-Ok-eq0-clause-arrives : goal.returns-in-Ok-eq0-clause-arrives
returns-in-Ok-eq0-clause-arrives g c = λ rest e.
    let b = c.in-Open.ensures.passes in
    let f = c.in-Ok-eq0.ensures.fills in
    let gains = f.gains in
    let size = ap length gains.grown in
    let within : length c.fill.new.self.held ≤ c.fill.new.self.room + 1 = omega (arith, b.within, f.room, size, gains.size, c.in-Ok-eq0.field-0-test, length-append c.pass_blank.new.self.held gains.bytes) in
    let p = from_read _ _ _ rest gains.bytes _ _ (from_blank _ _ _ rest _ (c.loop-at.invariant.passed rest e) b.passed) f.number f.room gains.grown gains.taken in
    arrives_last _ _ _ rest _ c.last.result p within (gains.end c.in-Ok-eq0.field-0-test) c.last.ensures

pub returns-in-Err-clause-arrives : goal.returns-in-Err-clause-arrives
returns-in-Err-clause-arrives g c = λ rest e.
    let b = c.in-Open.ensures.passes in
    arrives_failed _ _ _ rest _ _ c.in-Err.error (from_blank _ _ _ rest _ (c.loop-at.invariant.passed rest e) b.passed) b.within b.shows c.in-Err.ensures.fills

pub loop-at-preserved : goal.loop-at-preserved
loop-at-preserved g c =
    let b = c.in-Open.ensures.passes in
    let more = c.loop-at.invariant in
    let f = c.in-Ok.ensures.fills in
    let gains = f.gains in
    record {
      kept = f.kept ∙ b.kept ∙ more.kept;
      passed = λ rest e. from_read _ _ _ rest gains.bytes _ _ (from_blank _ _ _ rest _ (more.passed rest e) b.passed) f.number f.room gains.grown gains.taken;
      room = omega (arith, more.room, b.room, f.room);
      decided = λ d. absurd (true≢false (sym (b.decided ∙ (more.decided d).1) ∙ b.shows.undecided));
      calm = gains.calm ∙ more.calm;
    }
