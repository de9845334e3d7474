use Rattle.std.proofs.Common.{◌≡◌, ◌+◌, drop, length}
use Rattle.std.specs.List.{concat}
use Rattle.variant_meta.proofs.dictionary.total_len.Given as goal

-- what was counted, and what is left
abbrev pub invariant-loop-name : goal.invariant-loop-name
invariant-loop-name l = l.total + length (concat (drop l.name-index l.names)) ≡ length (concat l.names)
