use Rattle.std.proofs.Common.{◌≡◌, List, map, rules, subst}
use Rattle.std.specs.Prelude.{IsTrue}
use Rattle.std.specs.List.Sorted.{IsPermutation}
use Rattle.std.specs.Ordering.{is_lt}
use Rattle.std.proofs.lemmas.Cmp.{nat_list_cmp_total}
use Rattle.std.proofs.lemmas.List.Sorted.{answers_always, ranks_by}
use Rattle.json_tree.proofs.MembersOrder.{order, Rise}
use Rattle.file_columns.specs.declared.places.Child.{Child}
use Rattle.file_columns.specs.Columns.{names_of}
use Rattle.file_columns.specs.Views.{seen}
use Rattle.file_columns.proofs.NamesSorted.{key, repeated_is}
use Rattle.file_columns.proofs.names.names_repeat.Goals as goal

pub returns : goal.returns
returns c =
    repeated_is c.args.children.now c.sort_unstable_by.new.self.items c.names_rise.result (subst (λ (cs : List Child). IsPermutation cs c.sort_unstable_by.new.self.items) c.in_ok-sorted.ensures.items c.sort_unstable_by.ensures.permutation)
    (c.sort_unstable_by.ensures.sorted (λ a b. is_lt (order (key a) (key b))) (ranks_by nat_list_cmp_total key) (answers_always _ (λ a r. is_lt r ≡ is_lt (order (key a.0.now) (key a.1.0.now))) _ (λ f a r g q. search rules)))
    (subst (λ (cs : List Child). (IsTrue c.names_rise.result → Rise (names_of (map seen cs))) × (Rise (names_of (map seen cs)) → IsTrue c.names_rise.result)) c.as_slice.ensures.value c.names_rise.ensures)
