use Rattle.variant_laws.proofs.ValidValues.{document_valid}
use Rattle.variant_laws.proofs.laws.documents_are_valid.Goals as goal

pub returns : goal.returns
returns c = λ metadata value json are h. document_valid metadata value json are h
