use Rattle.page_tests.proofs.Given.{one_is}
use Rattle.page_tests.proofs.entries.page.Goals as goal

pub write_page-requires-clause-of : goal.write_page-requires-clause-of
write_page-requires-clause-of c = one_is
