use Rattle.std.proofs.Common.{◌∙◌, ap, ℕ, [], get_or}
use Rattle.shred_schema.specs.Ranges.{reads}
use Rattle.shred_schema.specs.Views.{group_of}
use Rattle.group_reading.specs.GroupRows.{rows_seen}
use Rattle.store_read.proofs.GroupSeen.{rows_begin}
use Rattle.store_read.proofs.group_rows.read_group.Goals as goal

pub returns-in-Ok-new : goal.returns-in-Ok-new
returns-in-Ok-new g c =
    rows_begin (g.S.Shelf.seen c.args.shelf.now) (g.S.Shelf.seen c.read_leaves.new.shelf) c.args.name.now c.args.mask.now c.args.end c.args.column.now c.args.group.now c.in-Ok.leaves c.in-Ok-new.rows c.requires c.in-Ok.ensures.read c.in-Ok-new.ensures.stands
    (c.in-Ok-new.ensures.rows ∙ ap (λ count. rows_seen (reads c.args.mask.now) c.args.column.now.column.optional (group_of c.args.column.now.column.node) count 0 (λ (j : ℕ). get_or c.in-Ok.leaves j [])) c.rows_in.ensures)
