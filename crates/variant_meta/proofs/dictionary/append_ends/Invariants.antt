use Rattle.std.proofs.Common.{◌≡◌, ◌+◌, ◌++◌, drop, length}
use Rattle.std.specs.List.{concat}
use Rattle.vs_bytes.specs.Outcome.{Grows}
use Rattle.variant_meta.specs.Written.{ends_from, numbers}
use Rattle.variant_meta.proofs.dictionary.append_ends.Given as goal

-- what was appended, and what is left, is all
abbrev pub invariant-loop-name : goal.invariant-loop-name
invariant-loop-name l = record {
  all : l.into.items ++ numbers l.size (ends_from l.end (drop l.name-index l.names)) ≡ l.fn.into.items ++ numbers l.size (ends_from 0 l.names);
  end : l.end + length (concat (drop l.name-index l.names)) ≡ length (concat l.names);
  grown : Grows l.fn.into.items l.into.items;
}
