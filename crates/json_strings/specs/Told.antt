-- What a refusal says.
use Rattle.vs_bytes.specs.declared.refused.Absent.{Absent}
use Rattle.vs_bytes.specs.declared.refused.Refused.{Refused}
use Rattle.vs_bytes.specs.declared.refused.Refused.TheVariants.{Fault, NoMemory}

-- that nothing of the kind stands there. Out of memory says nothing
abbrev pub Tells : Refused Absent → Type 0 → Type 0
Tells (Fault absent) P = P
Tells NoMemory P = Unit {0}
