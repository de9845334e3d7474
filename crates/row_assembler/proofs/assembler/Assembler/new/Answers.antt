use Rattle.std.proofs.Common.{◌≡◌, ◌∙◌, ap, Bool, List, length, ◌+◌}
use Rattle.shred_schema.specs.Groups.{width}
use Rattle.shred_schema.specs.Ranges.{reads, none_read}
use Rattle.shred_schema.specs.Views.{group_of}
use Rattle.row_assembler.proofs.Places.{new_sound}
use Rattle.row_assembler.proofs.assembler.Assembler.new.Goals as goal

pub invariant_of-result : goal.invariant_of-result
invariant_of-result c =
    let m = c.as_slice-read.result.now in
    let same : m ≡ c.args.mask.now = c.as_slice-read.ensures in
    new_sound (group_of c.args.column.now.node) m c.in_ok-node.node c.in_ok-places.places.items c.in_ok-cursors.cursors.items c.requires.column (ap length same ∙ c.requires.mask)
    (ap (λ (ms : List Bool). none_read (reads ms) 0 (1 + width (group_of c.args.column.now.node))) same ∙ c.requires.some)
    c.in_ok-node.ensures c.in_ok-places.ensures.len c.in_ok-places.ensures.places (c.in_ok-cursors.ensures.leaves ∙ c.in_ok-places.ensures.count)
