use Rattle.variant_laws.proofs.ReadBack.{read_back}
use Rattle.variant_laws.proofs.laws.coded_values_read_back.Goals as goal

pub returns : goal.returns
returns c = λ ns json widths rest above few wide valid have deep short. read_back ns json widths rest above few wide valid have deep short
