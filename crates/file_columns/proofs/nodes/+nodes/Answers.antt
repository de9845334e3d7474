use Rattle.std.proofs.Common.{◌∙◌, ap, sym, ℕ, List, [], ◌∷◌, ◌++◌, ◌+◌, map, drop, Some}
use Rattle.std.proofs.lemmas.List.{map-append}
use Rattle.shred_schema.specs.Groups.{object_of, groups_from}
use Rattle.shred_schema.specs.Views.{group_of, named}
use Rattle.shred_schema.specs.declared.nodes.Node.{Node}
use Rattle.shred_schema.proofs.Viewed.{kind_is_object}
use Rattle.file_columns.specs.declared.places.PlacedLeaf.{PlacedLeaf}
use Rattle.file_columns.specs.Columns.{node_in, group_in}
use Rattle.file_columns.specs.Views.{seen}
use Rattle.file_columns.proofs.Gathering.{gathered_turn, gathered_end, seen_at, seen_end, object_read}
use Rattle.file_columns.proofs.nodes.+nodes.Goals as goal

pub read_each_field-loop-child-preserved : goal.read_each_field-loop-child-preserved
read_each_field-loop-child-preserved t c =
    gathered_turn (node_in (group_in c.args.room)) c.args.levels (map seen c.args.children.now) (map named c.loop-child.fields) (map named c.push.new.self) c.loop-child.leaves.items c.extend_from_slice.new.self.items c.in_ok-node.more.items
    (map seen (drop c.loop-child.child-index c.args.children.now)) (seen c.child-item.result) (map seen (drop (c.loop-child.child-index + 1) c.args.children.now)) (group_of c.in_ok-node.node)
    c.loop-child.invariant (seen_at c.args.children.now c.loop-child.child-index c.child-item.result c.loop-child-test.true c.child-item.is) c.in_ok-node.ensures
    (ap (map named) c.in_ok-push.ensures.ok ∙ map-append named c.loop-child.fields (_ ∷ []) ∙ ap (λ (name : List ℕ). map named c.loop-child.fields ++ (name, group_of c.in_ok-node.node) ∷ []) (c.in_ok-name.ensures ∙ c.as_str.ensures))
    (c.in_ok-extend_from_slice.ensures.items ∙ ap (λ (ls : List PlacedLeaf). c.loop-child.leaves.items ++ ls) c.as_slice.ensures.value)

pub read_each_field-returns : goal.read_each_field-returns
read_each_field-returns t c =
    gathered_end (node_in (group_in c.args.room)) c.args.levels (map seen c.args.children.now) (map named c.loop-child.fields) c.loop-child.leaves.items (map seen (drop c.loop-child.child-index c.args.children.now))
    c.loop-child.invariant (seen_end c.args.children.now c.loop-child.child-index c.loop-child-test.false)

pub read_fields-returns : goal.read_fields-returns
read_fields-returns t c =
    object_read (node_in (group_in c.args.room)) c.args.levels c.args.children.now (groups_from (map named c.in_ok-fields.fields)) c.in_ok-fields.leaves.items
    (sym c.is_empty.ensures ∙ c.if-is_empty.false) (sym c.in_ok-repeated.ensures ∙ c.if-repeated.false) c.in_ok-fields.ensures
    ∙ ap (λ k. Some (k, c.in_ok-fields.leaves.items)) (sym (kind_is_object c.from_items.result ∙ ap (λ (xs : List (List ℕ × Node)). object_of (groups_from (map named xs))) c.from_items.ensures))
