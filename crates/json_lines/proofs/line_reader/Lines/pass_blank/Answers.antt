use Rattle.std.proofs.Common.{◌≡◌, ◌∙◌, ◌+◌, ◌≤◌, true, take, length, sym, ap, subst, arith}
use Rattle.std.specs.List.{list_all}
use Rattle.std.proofs.lemmas.List.{length-drop, length-take-le}
use Rattle.json_lines.specs.Cut.{is_blank, is_blank_byte, lines_of, max_line}
use Rattle.json_lines.specs.Next.{State, is_decided}
use Rattle.json_lines.specs.Takings.{Passed}
use Rattle.json_lines.proofs.Steps.{behind, passed_line, passed_decided, short_blank}
use Rattle.json_lines.proofs.Taking.{passed_then}
use Rattle.json_lines.proofs.line_reader.Lines.pass_blank.Goals as goal

pub loop-at-preserved : goal.loop-at-preserved
loop-at-preserved c =
    let s = c.loop-at.self in
    let at = c.in-Line.at in
    let is = c.in-Line.ensures.shows in
    let held = ap (λ (u : State). u.held) (c.self.view_is ∙ c.front.ensures.same) in
    let line : c.front-in-Line.result.now ≡ take at s.held = c.front-in-Line.ensures ∙ ap (take at) held in
    let white : list_all is_blank_byte (take at s.held) ≡ true = sym (ap (list_all is_blank_byte) line) ∙ sym c.is_blank.ensures ∙ c.if-not-is_blank.false in
    let size : length (take at s.held) ≤ max_line = omega (arith, is.short, is.inside, length-take-le at s.held (omega (arith, is.inside))) in
    let blank : is_blank (take at s.held) ≡ true = short_blank (take at s.held) size ∙ white in
    let new = c.pass.ensures ∙ ap (λ (u : State). behind u (at + 1)) c.front.ensures.same in
    let more = c.loop-at.invariant in
    record {
      kept = ap (λ (u : State). u.kept) new ∙ more.kept;
      passed = passed_then _ s _ _ _ _ more.passed (subst (λ (u : State). Passed s s.held u u.held) (sym new) (passed_line s at is blank));
      decided = ap (λ (u : State). is_decided (lines_of u.room u.held)) new ∙ passed_decided s at is blank ∙ more.decided;
      room = omega (arith, more.room, ap (λ (u : State). u.room) new);
      gap = omega (arith, more.gap, is.counts, is.inside, ap (λ (u : State). u.room) new, ap (λ (u : State). length u.held) new, length-drop (at + 1) s.held);
    }
