use Rattle.std.proofs.Common.{sym, subst}
use Rattle.json_lines.specs.Next.{State}
use Rattle.json_lines.specs.Takings.{Comes}
use Rattle.json_lines.proofs.Taking.{bounded_unread, comes_kept}
use Rattle.json_lines.proofs.line_reader.Lines.next.Goals as goal

pub returns-in-Some-clause-bounded : goal.returns-in-Some-clause-bounded
returns-in-Some-clause-bounded g c = λ rest e. bounded_unread c.args.self.now rest _ e c.in-Some.ensures.within

pub returns-clause-comes : goal.returns-clause-comes
returns-clause-comes g c = λ kept rest e.
    let found = c.find_next-answer in
    subst (λ (t : State). Comes c.args.self.now rest t (g.S.Source.seen found.new.source).bytes found.result) (sym c.keep.ensures.kept)
    (comes_kept c.args.self.now found.new.self rest _ found.result (found.ensures.arrives rest e).comes)
