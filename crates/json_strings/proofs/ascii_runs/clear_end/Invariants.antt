use Rattle.std.proofs.Common.{◌-◌, ◌≤◌, length}
use Rattle.json_strings.specs.AsciiRuns.{IsClearTo}
use Rattle.json_strings.proofs.ascii_runs.clear_end.Given as goal

abbrev pub invariant-loop-at : goal.invariant-loop-at
invariant-loop-at l = record { within : l.at ≤ length l.text; clear : IsClearTo l.text l.at }

abbrev pub decreases-loop-at : goal.decreases-loop-at
decreases-loop-at l = length l.text - l.at
