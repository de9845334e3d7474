use Rattle.std.proofs.Common.{◌≡◌, ◌-◌, ◌/◌, ◌^◌, ◌++◌, map}
use Rattle.vs_bytes.specs.PackedNumbers.{unpacked, little}
use Rattle.plain_values.specs.Plain.{truth}
use Rattle.plain_values.proofs.booleans.booleans.Given as goal

-- the truth values in front, then those that are left
abbrev pub invariant-loop-place : goal.invariant-loop-place
invariant-loop-place l = l.found ++ map truth (unpacked 1 (l.count - l.place) (little l.bytes / 2 ^ l.place)) ≡ map truth (unpacked 1 l.count (little l.bytes))
