use Rattle.std.proofs.Common.{ap, arith}
use Rattle.json_tree.specs.Json.{parts_depth, fields_depth}
use Rattle.json_tree.specs.Inside.{items_sized, members_sized}
use Rattle.json_tree.specs.declared.types.Items.TheDeep.{size-Tree}
use Rattle.variant_write.proofs.known_names.+after.Goals as goal

pub after-after_elements-requires : goal.after-after_elements-requires
after-after_elements-requires t c = (omega (arith, items_sized c.as_slice.result.now, ap parts_depth c.as_slice.ensures.seen, c.decreases, ap size-Tree c.in-Array.is), tt)

pub after-after_members-requires : goal.after-after_members-requires
after-after_members-requires t c = (omega (arith, members_sized c.as_slice-in-Object.result.now, ap fields_depth c.as_slice-in-Object.ensures.seen, c.decreases, ap size-Tree c.in-Object.is), tt)
