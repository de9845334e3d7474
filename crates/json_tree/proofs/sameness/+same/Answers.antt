use Rattle.std.proofs.Common.{ap, arith}
use Rattle.json_tree.specs.Json.{parts_depth, fields_depth}
use Rattle.json_tree.specs.Inside.{items_sized, members_sized}
use Rattle.json_tree.specs.declared.types.Items.TheDeep.{size-Tree}
use Rattle.json_tree.proofs.Equality.{array_same, object_same, item_same, member_same}
use Rattle.json_tree.proofs.sameness.+same.Goals as goal

pub same-returns-in-Array-b : goal.same-returns-in-Array-b
same-returns-in-Array-b t c = array_same c.args.a.now c.args.b.now c.in-Array.x c.in-Array-b.y c.as_slice.result.now c.as_slice-in-Array-b.result.now c.same_items.result c.in-Array.is c.in-Array-b.is c.as_slice.ensures.seen c.as_slice-in-Array-b.ensures.seen c.same_items.ensures

pub same-returns-in-Object-b : goal.same-returns-in-Object-b
same-returns-in-Object-b t c = object_same c.args.a.now c.args.b.now c.in-Object.x c.in-Object-b.y c.as_slice-in-Object-b.result.now c.as_slice-in-Object-b-2.result.now c.same_members.result c.in-Object.is c.in-Object-b.is c.as_slice-in-Object-b.ensures.seen c.as_slice-in-Object-b-2.ensures.seen c.same_members.ensures

pub same_items-returns-then-not-same : goal.same_items-returns-then-not-same
same_items-returns-then-not-same t c = (λ e. absurd (cc), λ whole. (c.if-not-same.ensures).1 (item_same c.args.a.now c.args.b.now c.loop-i.i c.index-a-i.result c.index-b-i.result (omega arith) (omega arith) c.index-a-i.is c.index-b-i.is whole))

pub same_members-returns-then-not-same_member : goal.same_members-returns-then-not-same_member
same_members-returns-then-not-same_member t c = (λ e. absurd (cc), λ whole. (c.if-not-same_member.ensures).1 (member_same c.args.a.now c.args.b.now c.loop-i.i _ _ _ _ (omega arith) (omega arith) whole))

pub same-same_items-requires : goal.same-same_items-requires
same-same_items-requires t c = (omega (arith, items_sized c.as_slice.result.now, ap parts_depth c.as_slice.ensures.seen, c.decreases, ap size-Tree c.in-Array.is), tt)

pub same-same_members-requires : goal.same-same_members-requires
same-same_members-requires t c = (omega (arith, members_sized c.as_slice-in-Object-b.result.now, ap fields_depth c.as_slice-in-Object-b.ensures.seen, c.decreases, ap size-Tree c.in-Object.is), tt)
