use Rattle.variant_store.proofs.Completing.{completes}
use Rattle.variant_store.proofs.KeptFiles.{keeps_files}
use Rattle.variant_store.proofs.top.vstore.Goals as goal

pub returns-in-Err-clause-complete : goal.returns-in-Err-clause-complete
returns-in-Err-clause-complete g c = completes _ _ _ _ _ _ _ c.in-Err.ensures.runs c.report.ensures

pub returns-in-Err-clause-kept : goal.returns-in-Err-clause-kept
returns-in-Err-clause-kept g c = keeps_files _ _ _ _ c.in-Err.ensures.runs

pub returns-in-Ok-clause-kept : goal.returns-in-Ok-clause-kept
returns-in-Ok-clause-kept g c = keeps_files _ _ _ _ c.in-Ok.ensures.runs
