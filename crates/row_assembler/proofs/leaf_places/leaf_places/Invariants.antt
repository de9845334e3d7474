use Rattle.std.proofs.Common.{◌≡◌, ◌<◌, ◌≤◌, ℕ, None, length, slice_index_or}
use Rattle.shred_schema.specs.Projection.{place}
use Rattle.shred_schema.specs.Ranges.{reads}
use Rattle.row_assembler.specs.Assembly.{place_in}
use Rattle.row_assembler.proofs.leaf_places.leaf_places.Given as goal

abbrev pub invariant-loop-leaf : goal.invariant-loop-leaf
invariant-loop-leaf l = record {
  len : length l.places.items ≡ l.leaf;
  count : l.count ≡ place (reads l.mask) l.leaf;
  few : l.count ≤ l.leaf;
  listed : (j : ℕ) → j < l.leaf → slice_index_or l.places.items j None ≡ place_in l.mask j;
}
