use Rattle.std.proofs.Common.{◌≡◌, ◌||◌, drop, nat_lt}
use Rattle.std.specs.List.{list_any}
use Rattle.pages.proofs.levels.passes.Given as goal

-- what was seen, and what is left
abbrev pub invariant-loop-level : goal.invariant-loop-level
invariant-loop-level l = (l.above || list_any (λ level. nat_lt l.maximum level) (drop l.level-index l.levels)) ≡ list_any (λ level. nat_lt l.maximum level) l.levels
