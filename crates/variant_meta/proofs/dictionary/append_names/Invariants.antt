use Rattle.std.proofs.Common.{◌≡◌, ◌++◌, drop}
use Rattle.std.specs.List.{concat}
use Rattle.vs_bytes.specs.Outcome.{Grows}
use Rattle.variant_meta.proofs.dictionary.append_names.Given as goal

-- what was appended, and what is left, is all
abbrev pub invariant-loop-name : goal.invariant-loop-name
invariant-loop-name l = record {
  all : l.into.items ++ concat (drop l.name-index l.names) ≡ l.fn.into.items ++ concat l.names;
  grown : Grows l.fn.into.items l.into.items;
}
