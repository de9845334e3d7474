use Rattle.std.proofs.Common.{ap}
use Rattle.json_documents.proofs.Calling.{called, within_limit}
use Rattle.json_documents.proofs.document_reader.next_line.Goals as goal

pub returns-clause-call : goal.returns-clause-call
returns-clause-call g c =
    let call = c.next.ensures in
    called _ _ _ _ c.next.result call.again (λ kept. ap g.S.Source.seen (call.untouched kept).0) call.keeps call.comes call.bounded call.less call.counts

pub returns-clause-bounded : goal.returns-clause-bounded
returns-clause-bounded g c = λ input documents given.
    let call = c.next.ensures in
    within_limit _ _ _ _ c.next.result input documents
    (called _ _ _ _ c.next.result call.again (λ kept. ap g.S.Source.seen (call.untouched kept).0) call.keeps call.comes call.bounded call.less call.counts) given
