use Rattle.std.proofs.Common.{ap, subst, arith}
use Rattle.json_tree.specs.Json.{object}
use Rattle.json_tree.specs.Valid.{IsValid}
use Rattle.json_tree.specs.Json.{parts_depth, fields_depth}
use Rattle.json_tree.specs.Inside.{items_sized, members_sized}
use Rattle.json_tree.specs.declared.types.Items.TheDeep.{size-Tree}
use Rattle.json_tree.proofs.copies.+copy.Goals as goal

pub copy-copy_items-requires : goal.copy-copy_items-requires
copy-copy_items-requires t c = (omega (arith, items_sized c.as_slice.result.now, ap parts_depth c.as_slice.ensures.seen, c.decreases, ap size-Tree c.in-Array.is), tt)

pub copy-copy_members-requires : goal.copy-copy_members-requires
copy-copy_members-requires t c = (
  omega (arith, members_sized c.as_slice-in-Object.result.now, ap fields_depth c.as_slice-in-Object.ensures.seen, c.decreases, ap size-Tree c.in-Object.is),
  subst (λ fs. IsValid (object fs)) c.as_slice-in-Object.ensures.seen c.as_slice-in-Object.ensures.valid,
)
