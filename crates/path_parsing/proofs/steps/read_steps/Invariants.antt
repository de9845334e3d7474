use Rattle.std.proofs.Common.{◌≡◌, ◌-◌, ◌≤◌, length}
use Rattle.path_parsing.specs.Reading.{steps_at}
use Rattle.byte_parsing.specs.Parse.{read_as}
use Rattle.path_parsing.specs.Grammar.{path_of}
use Rattle.path_parsing.proofs.Turns.{steps_before}
use Rattle.path_parsing.proofs.steps.read_steps.Given as goal

abbrev pub invariant-turns : goal.invariant-turns
invariant-turns l = record {
  few : length l.steps.items ≤ 64;
  read : steps_before l.steps.items (read_as path_of (steps_at (64 - length l.steps.items) l.rest)) ≡ read_as path_of (steps_at 64 l.fn.text);
}

abbrev pub decreases-turns : goal.decreases-turns
decreases-turns l = 64 - length l.steps.items
