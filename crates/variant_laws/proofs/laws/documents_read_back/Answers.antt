use Rattle.variant_laws.proofs.ReadBack.{document_read_back}
use Rattle.variant_laws.proofs.laws.documents_read_back.Goals as goal

pub returns : goal.returns
returns c = λ json least widths after rest low high wide valid deep short. document_read_back json least widths after rest low high wide valid deep short
