use Rattle.std.proofs.Common.{◌≡◌, ◌-◌, ◌<◌, ◌≤◌, ℕ, true, get_or}
use Rattle.json_strings.specs.Reading.{is_plain}
use Rattle.json_strings.proofs.runs.plain_until.Given as goal

abbrev pub invariant-loop-at : goal.invariant-loop-at
invariant-loop-at l = record {
  further : l.fn.from ≤ l.at;
  within : l.at ≤ l.end;
  plain : (k : ℕ) → l.fn.from ≤ k → k < l.at → is_plain (get_or l.text k 0) ≡ true;
}

abbrev pub decreases-loop-at : goal.decreases-loop-at
decreases-loop-at l = l.end - l.at
