use Rattle.std.proofs.Common.{◌≡◌, ◌+◌, ◌≤◌, drop}
use Rattle.exact_json.specs.Brackets.{is_too_deep}
use Rattle.exact_json.specs.Counting.{scan}
use Rattle.exact_json.proofs.brackets.is_too_deep.Given as goal

abbrev pub invariant-loop-byte : goal.invariant-loop-byte
invariant-loop-byte l = record {
  scan : scan l.place (drop l.byte-index l.line) l.left ≡ is_too_deep l.line;
  left : l.left ≤ 65 + l.byte-index;
}
