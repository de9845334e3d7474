use Rattle.thrift_compact.proofs.PagesBack.{page_reads_back}
use Rattle.thrift_compact.proofs.laws.page_headers_read_back.Goals as goal

pub returns : goal.returns
returns c = λ h rest w f. page_reads_back h rest w f
