use Rattle.outside.specs.Devices.{IsCalm}
use Rattle.json_documents.specs.Given.{IsGoing, Given}
use Rattle.json_documents.specs.Taking.{TookAll}
use Rattle.json_documents.proofs.handing.walk.Given as goal

abbrev pub invariant-loop-document : goal.invariant-loop-document
invariant-loop-document g l = record {
  going : IsGoing l.documents;
  ready : g.T.Taker.ready l.taker l.device;
  took : TookAll (λ documents. g.T.Taker.took l.fn.taker l.fn.device documents l.taker l.device) (g.S.Source.seen l.fn.source).bytes (λ input documents. Given input (g.S.Source.seen l.source).bytes l.documents documents);
  calm : IsCalm (g.S.Source.seen l.fn.source) (g.S.Source.seen l.source);
}

abbrev pub decreases-loop-document : goal.decreases-loop-document
decreases-loop-document g l = l.documents.room
