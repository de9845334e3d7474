use Rattle.std.proofs.Common.{◌-◌}
use Rattle.shred_schema.specs.Ranges.{is_among}
use Rattle.level_striping.specs.Entries.{in_leaf, null_at}
use Rattle.level_striping.specs.Gains.{Gains}
use Rattle.level_striping.proofs.putting.put_nulls.Given as goal

abbrev pub invariant-loop-leaf : goal.invariant-loop-leaf
invariant-loop-leaf l = Gains l.fn.leaves l.leaves (λ j. in_leaf (is_among j l.from (l.leaf - l.from)) (null_at l.levels.rep l.levels.def))
