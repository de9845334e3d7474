use Rattle.std.proofs.Common.{◌≡◌, ◌++◌, drop}
use Rattle.vs_bytes.specs.Outcome.{Grows}
use Rattle.variant_meta.specs.Written.{numbers}
use Rattle.variant_write.proofs.composer.append_numbers.Given as goal

-- what was appended, and what is left, is all
abbrev pub invariant-loop-number : goal.invariant-loop-number
invariant-loop-number g l = record {
  all : l.into.items ++ numbers g.row.W (drop l.number-index l.list) ≡ l.fn.into.items ++ numbers g.row.W l.list;
  grown : Grows l.fn.into.items l.into.items;
}
