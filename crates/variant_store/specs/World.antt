-- What a call of the program is handed, beside its words and its error output.
use Rattle.outside.specs.Devices.{Device, IsCalm}
use Rattle.shelf.specs.Storage.{Storage}
use Rattle.document_loading.specs.Loading.{Intake, intake}
use Rattle.file_answers.specs.Beginning.{Readout, readout}

pub record World : Type 0 where
  pub shelf : Storage
  pub input : Device
  pub out : Device

abbrev pub world_of : Storage → Device → Device → World
world_of shelf input out = record { shelf = shelf; input = input; out = out }

-- what a command is handed that reads the input and prints
pub record Pipe : Type 0 where
  pub input : Device
  pub out : Device

abbrev pub pipe_of : Device → Device → Pipe
pipe_of input out = record { input = input; out = out }

abbrev pub pipe_in : World → Pipe
pipe_in world = pipe_of world.input world.out

-- no device failed
abbrev pub AreCalm : Pipe → Pipe → Type 0
AreCalm before after = IsCalm before.input after.input × IsCalm before.out after.out

-- what a command is handed that reads the input and writes a file
abbrev pub intake_in : World → Intake
intake_in world = intake world.shelf world.input

-- what a command is handed that reads a file and prints
abbrev pub readout_in : World → Readout
readout_in world = readout world.shelf world.out
