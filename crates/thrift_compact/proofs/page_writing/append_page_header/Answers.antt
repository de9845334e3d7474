use Rattle.vs_bytes.proofs.Growing.{grows_on}
use Rattle.thrift_compact.proofs.page_writing.append_page_header.Goals as goal

pub returns-clause-grows : goal.returns-clause-grows
returns-clause-grows c = grows_on _ _ _ c.in_ok-append_field.ensures.grows (grows_on _ _ _ c.in_ok-append_field-2.ensures.grows (grows_on _ _ _ c.in_ok-append_field-3.ensures.grows (grows_on _ _ _ c.in_ok-last.ensures.grows (grows_on _ _ _ c.in_ok-last-2.ensures.grows (grows_on _ _ _ c.in_ok-last-3.ensures.grows (c.in_ok-append_stop.ensures.grows))))))
