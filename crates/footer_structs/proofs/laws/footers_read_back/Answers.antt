use Rattle.footer_structs.proofs.FootersBack.{footer_reads_back}
use Rattle.footer_structs.proofs.Writable.{footer_fits}
use Rattle.footer_structs.proofs.laws.footers_read_back.Goals as goal

pub returns-clause-read : goal.returns-clause-read
returns-clause-read c = λ m rest f. footer_reads_back m rest f

pub returns-clause-writable : goal.returns-clause-writable
returns-clause-writable c = λ m f. footer_fits m f
