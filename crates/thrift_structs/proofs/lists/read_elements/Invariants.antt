use Rattle.std.proofs.Common.{◌≡◌, ◌-◌}
use Rattle.thrift_compact.specs.Numbers.{mapped}
use Rattle.thrift_compact.specs.Trees.{elements_at, shaped}
use Rattle.thrift_structs.specs.Entries.{each_in}
use Rattle.thrift_structs.proofs.Items.{left}
use Rattle.thrift_structs.proofs.lists.read_elements.Given as goal

-- the items that were read, and the elements that are left
abbrev pub invariant-loop-index : goal.invariant-loop-index
invariant-loop-index g l =
    left (shaped g.E.Entry.shape l.kind) g.E.Entry.read l.list (l.size - l.index) l.rest
    ≡ mapped (each_in g.E.Entry.read) (elements_at (shaped g.E.Entry.shape l.kind) l.size l.bytes)
