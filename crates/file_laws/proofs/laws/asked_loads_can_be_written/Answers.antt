use Rattle.file_laws.proofs.LoadWords.{asked_can_load}
use Rattle.file_laws.proofs.laws.asked_loads_can_be_written.Goals as goal

pub returns : goal.returns
returns c = asked_can_load
