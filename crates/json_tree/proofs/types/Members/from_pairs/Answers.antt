use Rattle.std.proofs.Common.{refl, subst, map, List, ℕ}
use Rattle.json_tree.specs.Json.{fields_of}
use Rattle.json_tree.specs.Valid.{HoldValid}
use Rattle.json_tree.specs.View.{seen}
use Rattle.json_tree.specs.declared.types.Tree.{Tree}
use Rattle.json_tree.proofs.MembersMade.{members_made, members_rise, not_repeated}
use Rattle.json_tree.proofs.types.Members.from_pairs.Goals as goal

pub invariant_of-result : goal.invariant_of-result
invariant_of-result c = (
  members_rise c.put_in_order.new.pairs.items ((c.if-put_in_order.ensures).rise refl),
  subst (λ (ps : List (List ℕ × Tree)). HoldValid (fields_of (map seen ps))) c.as_slice.ensures.value c.each_pair_is_valid.ensures,
)

pub returns-then-put_in_order-clause-ok : goal.returns-then-put_in_order-clause-ok
returns-then-put_in_order-clause-ok c = members_made c.args.pairs.items c.put_in_order.new.pairs.items (c.if-put_in_order.ensures).moved ((c.if-put_in_order.ensures).rise refl)

pub returns-then-put_in_order-clause-repeated : goal.returns-then-put_in_order-clause-repeated
returns-then-put_in_order-clause-repeated c =
    (λ e. absurd (cc), λ e. absurd (not_repeated c.args.pairs.items c.put_in_order.new.pairs.items (c.if-put_in_order.ensures).moved ((c.if-put_in_order.ensures).rise refl) e))
