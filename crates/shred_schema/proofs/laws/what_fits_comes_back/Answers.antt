use Rattle.shred_schema.proofs.FitFacts.{fits_back, fit_is_cell}
use Rattle.shred_schema.proofs.laws.what_fits_comes_back.Goals as goal

pub returns-clause-same : goal.returns-clause-same
returns-clause-same c = fits_back

pub returns-clause-of : goal.returns-clause-of
returns-clause-of c = fit_is_cell
