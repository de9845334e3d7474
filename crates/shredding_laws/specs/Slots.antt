-- Nodes whose values may all be missing.
use Rattle.std.specs.Prelude.{◌≡◌}
use Rattle.shred_schema.specs.Groups.{Group, Kind}
use Rattle.shred_schema.specs.Lawful.{EachNode, IsWritten}
use Rattle.shred_schema.specs.declared.nodes.Slot.{Slot}
use Rattle.shred_schema.specs.declared.nodes.Slot.TheVariants.{Optional}

abbrev pub IsOptional : Slot → Kind → Type 0
IsOptional s t = s ≡ Optional

-- the nodes that a schema describes, where each value is optional
abbrev pub AllOptional : Group → Type 0
AllOptional = EachNode IsOptional IsWritten
