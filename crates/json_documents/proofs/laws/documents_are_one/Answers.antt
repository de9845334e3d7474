use Rattle.json_lines.specs.Cut.{lines_of}
use Rattle.json_documents.specs.Documents.{max_input}
use Rattle.json_documents.proofs.Walks.{walks_once}
use Rattle.json_documents.proofs.laws.documents_are_one.Goals as goal

pub returns : goal.returns
returns c = λ input ds es a b f g. let same = walks_once (lines_of max_input input) 0 ds es a b f g in (same.documents, same.ending)
