use Rattle.std.proofs.Common.{◌≡◌, max, drop}
use Rattle.variant_write.specs.Coded.{greatest}
use Rattle.variant_write.proofs.composing.greatest.Given as goal

-- the greatest so far, and of those that are left
abbrev pub invariant-loop-id : goal.invariant-loop-id
invariant-loop-id l = max l.most (greatest (drop l.id-index l.ids)) ≡ greatest l.ids
