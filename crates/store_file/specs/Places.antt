-- What a row group violates, as what its file does.
use Rattle.std.specs.Prelude.{ℕ, Result, Ok, Err}
use Rattle.vs_bytes.specs.declared.refused.Refused.{Refused}
use Rattle.vs_bytes.specs.declared.refused.Refused.TheVariants as refused
use Rattle.vs_bytes.specs.declared.rule.Rule.{Rule}
use Rattle.outside.specs.declared.sink.SinkError.{SinkError}
use Rattle.outside.specs.declared.sink.SinkError.TheVariants as sink
use Rattle.thrift_footer.specs.declared.opening.OpenFault.{OpenFault}
use Rattle.thrift_footer.specs.declared.opening.OpenFault.TheVariants as opening
use Rattle.group_reading.specs.declared.group_faults.GroupFault.{GroupFault}
use Rattle.group_reading.specs.declared.group_faults.PlaceInGroup.{PlaceInGroup}
use Rattle.group_reading.specs.declared.group_faults.PlaceInGroup.TheVariants as inner
use Rattle.store_read.specs.declared.read_stop.ReadStop.{ReadStop}
use Rattle.store_read.specs.declared.read_stop.ReadStop.TheVariants.{Violated, Failed, NoMemory}
use Rattle.store_file.specs.declared.file_faults.Place.{Place}
use Rattle.store_file.specs.declared.file_faults.Place.TheVariants as place
use Rattle.store_file.specs.declared.file_faults.Violation.{Violation}
use Rattle.store_file.specs.declared.file_faults.QueryFault.{QueryFault}
use Rattle.store_file.specs.declared.file_faults.QueryFault.TheVariants as fault

-- a place in group k
abbrev pub place_in : ℕ → PlaceInGroup → Place
place_in k (inner.Leaf leaf) = place.Chunk k leaf
place_in k (inner.Row row) = place.Row k row

abbrev pub violation_in : ℕ → GroupFault → Violation
violation_in k broken = record { rule = broken.rule; place = place_in k broken.place }

-- what group k gives, or what the file violates there
abbrev pub in_group : {A : Type 0} → ℕ → Result A GroupFault → Result A Violation
in_group k (Ok a) = Ok a
in_group k (Err broken) = Err (violation_in k broken)

-- why a group wasn't read, and why its rows weren't taken
abbrev pub stop_in : ℕ → ReadStop GroupFault → ReadStop Violation
stop_in k (Violated broken) = Violated (violation_in k broken)
stop_in k Failed = Failed
stop_in k NoMemory = NoMemory

abbrev pub refusal_in : ℕ → Refused GroupFault → ReadStop Violation
refusal_in k (refused.Fault broken) = Violated (violation_in k broken)
refusal_in k refused.NoMemory = NoMemory

-- why lines weren't written
abbrev pub write_fault : SinkError → QueryFault
write_fault sink.Failed = fault.WriteFault
write_fault sink.NoMemory = fault.NoMemory

-- why a column wasn't found
abbrev pub open_fault : Refused Rule → OpenFault
open_fault (refused.Fault rule) = opening.Refused rule
open_fault refused.NoMemory = opening.NoMemory

-- why a file wasn't read to its end
abbrev pub fault_of : ReadStop Violation → QueryFault
fault_of (Violated violation) = fault.Refused violation
fault_of Failed = fault.ReadFault
fault_of NoMemory = fault.NoMemory
