use Rattle.json_lines.specs.Cut.{lines_of}
use Rattle.json_documents.specs.Documents.{max_input}
use Rattle.json_documents.proofs.Walks.{walked}
use Rattle.json_documents.proofs.laws.documents_are_there.Goals as goal

pub returns : goal.returns
returns c = λ input. let w = walked (lines_of max_input input) 0 in (w.documents, w.ending, w.walks)
