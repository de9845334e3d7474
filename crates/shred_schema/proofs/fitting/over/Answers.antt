use Rattle.exact_num.specs.NumberOf.{decimal_of}
use Rattle.shred_schema.proofs.FitFacts.{over_computed}
use Rattle.shred_schema.proofs.fitting.over.Goals as goal

pub returns : goal.returns
returns c = over_computed c.args.p c.args.s (decimal_of c.args.number) c.fits.result (record { lean = c.args.number.least }) c.fits.ensures
