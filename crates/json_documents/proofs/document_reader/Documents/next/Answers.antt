use Rattle.std.proofs.Common.{sym, subst}
use Rattle.json_lines.specs.Next.{State}
use Rattle.json_documents.specs.Given.{Given}
use Rattle.json_documents.proofs.document_reader.Documents.next.Goals as goal

pub returns-clause-bounded : goal.returns-clause-bounded
returns-clause-bounded g c = λ input documents given.
    c.next_of.ensures.bounded input documents (subst (λ (s : State). Given input (g.S.Source.seen c.args.source.now).bytes s documents) (sym c.self.view_is) given)
