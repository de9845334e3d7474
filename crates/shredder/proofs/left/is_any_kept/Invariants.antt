use Rattle.std.proofs.Common.{◌≡◌, drop}
use Rattle.std.specs.List.{list_any}
use Rattle.shredder.proofs.left.is_any_kept.Given as goal

abbrev pub invariant-loop-keep : goal.invariant-loop-keep
invariant-loop-keep l = list_any (λ keep. keep) (drop l.keep-index l.kept) ≡ list_any (λ keep. keep) l.kept
