use Rattle.std.proofs.Common.{◌≡◌, ◌+◌, ◌-◌, ◌*◌, ◌^◌, ◌≤◌, take, true}
use Rattle.std.specs.List.{list_all}
use Rattle.exact_num.specs.Parsing.{is_digit}
use Rattle.exact_num.specs.Spelling.{digits_value}
use Rattle.exact_num.proofs.leading_reading.short_digits.Given as goal

abbrev pub invariant-loop-at : goal.invariant-loop-at
invariant-loop-at l = record {
  within : l.at ≤ l.end;
  all : list_all is_digit (take l.at l.text) ≡ true;
  value : l.value ≡ digits_value l.before (take l.at l.text);
  small : (l.value + 1) * 10 ^ (l.most - l.at) ≤ 10 ^ 18;
}

abbrev pub decreases-loop-at : goal.decreases-loop-at
decreases-loop-at l = l.end - l.at
