use Rattle.std.proofs.Common.{◌-◌}
use Rattle.plain_values.specs.Plain.{front_cell}
use Rattle.pages.proofs.Judged.{IsAsGood}
use Rattle.pages.proofs.judging.judge_in_turn.Given as goal

abbrev pub invariant-loop-i : goal.invariant-loop-i
invariant-loop-i l = IsAsGood (front_cell l.leaf.phys l.leaf.prim) l.count l.bytes (l.count - l._i) l.left
