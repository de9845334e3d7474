use Rattle.std.proofs.lemmas.List.Elements.{recursion_from_All}
use Rattle.pages.specs.Entries.{IsEntry}
use Rattle.pages.proofs.BodyBack.{body_back}
use Rattle.pages.proofs.PageBack.{header_back, entries_back, small_page}
use Rattle.pages.proofs.laws.written_entries_read_back.Goals as goal

pub returns-clause-header : goal.returns-clause-header
returns-clause-header c = header_back

pub returns-clause-body : goal.returns-clause-body
returns-clause-body c = λ leaf entries more rep def few are. body_back leaf entries more (small_page leaf entries rep def few) (recursion_from_All (IsEntry leaf) entries are)

pub returns-clause-page : goal.returns-clause-page
returns-clause-page c = λ leaf entries size rep def few are. entries_back leaf entries size (small_page leaf entries rep def few) (recursion_from_All (IsEntry leaf) entries are)
