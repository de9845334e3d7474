use Rattle.std.proofs.Common.{ap, arith}
use Rattle.json_tree.specs.Json.{parts_depth, fields_depth}
use Rattle.json_tree.specs.Inside.{items_sized, members_sized}
use Rattle.json_tree.specs.declared.types.Items.TheDeep.{size-Tree}
use Rattle.json_tree.proofs.printing.+put.Goals as goal

pub put_tree-put_array-requires : goal.put_tree-put_array-requires
put_tree-put_array-requires t c = (omega (arith, items_sized c.as_slice.result.now, ap parts_depth c.as_slice.ensures.seen, c.decreases, ap size-Tree c.in-Array.is), tt)

pub put_tree-put_object-requires : goal.put_tree-put_object-requires
put_tree-put_object-requires t c = (omega (arith, members_sized c.as_slice-in-Object.result.now, ap fields_depth c.as_slice-in-Object.ensures.seen, c.decreases, ap size-Tree c.in-Object.is), tt)
