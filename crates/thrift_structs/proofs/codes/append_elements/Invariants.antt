use Rattle.std.proofs.Common.{◌≡◌, ◌++◌, drop}
use Rattle.std.specs.List.{flat_map}
use Rattle.vs_bytes.specs.Outcome.{Grows}
use Rattle.thrift_compact.specs.Coded.{coded}
use Rattle.thrift_structs.proofs.codes.append_elements.Given as goal

-- the bytes that were appended, then those of the elements that are left
abbrev pub invariant-loop-value : goal.invariant-loop-value
invariant-loop-value g l = record {
  bytes : l.into.items ++ flat_map (λ x. coded (g.C.Code.tree x)) (drop l.value-index l.values) ≡ l.fn.into.items ++ flat_map (λ x. coded (g.C.Code.tree x)) l.values;
  grows : Grows l.fn.into.items l.into.items;
}
