use Rattle.std.proofs.Common.{ap, arith}
use Rattle.json_tree.specs.Json.{parts_depth, fields_depth}
use Rattle.json_tree.specs.Inside.{items_sized, members_sized}
use Rattle.json_tree.specs.declared.types.Items.TheDeep.{size-Tree}
use Rattle.json_tree.proofs.lengths.+text_len.Goals as goal

pub text_len-items_len-requires : goal.text_len-items_len-requires
text_len-items_len-requires t c = (omega (arith, items_sized c.as_slice.result.now, ap parts_depth c.as_slice.ensures.seen, c.decreases, ap size-Tree c.in-Array.is), tt)

pub text_len-members_len-requires : goal.text_len-members_len-requires
text_len-members_len-requires t c = (omega (arith, members_sized c.as_slice-in-Object.result.now, ap fields_depth c.as_slice-in-Object.ensures.seen, c.decreases, ap size-Tree c.in-Object.is), tt)
