use Rattle.std.proofs.Common.{◌≡◌, rules}
use Rattle.std.specs.Ordering.{is_lt}
use Rattle.std.proofs.lemmas.List.Sorted.{answers_always}
use Rattle.json_tree.proofs.MembersOrder.{order}
use Rattle.json_tree.proofs.MembersMade.{rise_answer}
use Rattle.json_tree.proofs.name_order.names_rise.Goals as goal

pub returns : goal.returns
returns c = rise_answer c.args.pairs.now c.is_sorted_by.result (c.is_sorted_by.ensures.cases (λ a b. is_lt (order a.0 b.0)) (answers_always _ (λ a r. r ≡ is_lt (order a.0.now.0 a.1.0.now.0)) _ (λ f a r g q. search rules)))
