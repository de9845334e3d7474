use Rattle.std.proofs.Common.{◌≡◌, ◌+◌, ◌*◌, ◌≤◌, length}
use Rattle.variant_meta.specs.MetaRefs.{names_of}
use Rattle.variant_read.specs.Judging.{size_from}
use Rattle.variant_read.specs.Meaning.{container, value_within, size_in}
use Rattle.variant_read.proofs.judging.+judging.Given as goal

abbrev pub decreases-check : goal.decreases-check
decreases-check l = 4 * l.room + 1

abbrev pub decreases-container : goal.decreases-container
decreases-container l = 4 * l.room

abbrev pub decreases-items : goal.decreases-items
decreases-items l = 4 * l.room + 3

abbrev pub decreases-with_item : goal.decreases-with_item
decreases-with_item l = 4 * l.room + 2

abbrev pub invariant-items-loop-k : goal.invariant-items-loop-k
invariant-items-loop-k l = record {
  within : l.used ≤ length l.region;
  rest : size_in (container (names_of l.meta) (value_within (names_of l.meta) l.room) l.layout.bytes.now) ≡ size_from (value_within (names_of l.meta) l.room) (names_of l.meta) l.layout.bytes.now l.k l.used;
}
