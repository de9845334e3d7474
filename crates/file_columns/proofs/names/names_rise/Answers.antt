use Rattle.std.proofs.Common.{◌≡◌, rules}
use Rattle.std.specs.Ordering.{is_lt}
use Rattle.std.proofs.lemmas.List.Sorted.{answers_always}
use Rattle.json_tree.proofs.MembersOrder.{order}
use Rattle.file_columns.proofs.NamesSorted.{key, rise_answer}
use Rattle.file_columns.proofs.names.names_rise.Goals as goal

pub returns : goal.returns
returns c = rise_answer c.args.children.now c.is_sorted_by.result (c.is_sorted_by.ensures.cases (λ a b. is_lt (order (key a) (key b))) (answers_always _ (λ a r. r ≡ is_lt (order (key a.0.now) (key a.1.0.now))) _ (λ f a r g q. search rules)))
