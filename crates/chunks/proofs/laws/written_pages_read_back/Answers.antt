use Rattle.std.proofs.lemmas.List.Elements.{recursion_from_All}
use Rattle.pages.specs.Entries.{IsEntry}
use Rattle.chunks.proofs.PageBack.{page_back}
use Rattle.chunks.proofs.laws.written_pages_read_back.Goals as goal

pub returns : goal.returns
returns c = λ leaf entries more rep def light are. page_back leaf entries more rep def light (recursion_from_All (IsEntry leaf) entries are)
