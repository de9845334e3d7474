use Rattle.std.proofs.Common.{◌≡◌, ◌∙◌, ℕ, List, Bool, true, false, rules, sym, subst}
use Rattle.std.specs.Ordering.{is_lt}
use Rattle.std.proofs.lemmas.Cmp.{nat_list_cmp_total}
use Rattle.std.proofs.lemmas.List.Sorted.{answers_always, ranks_by}
use Rattle.json_tree.proofs.MembersOrder.{order, Rise}
use Rattle.json_tree.proofs.MembersMade.{repeated_from, names}
use Rattle.json_tree.specs.declared.types.Tree.{Tree}
use Rattle.json_tree.proofs.name_order.put_in_order.Goals as goal

not_both_ways : (b : Bool) → b ≡ false → b ≡ true → ⊥
not_both_ways b e f = let g : false ≡ true = sym e ∙ f in cc

pub returns-clause-repeated : goal.returns-clause-repeated
returns-clause-repeated c = λ e. repeated_from c.args.pairs.now.items c.sort_unstable_by.new.self.items c.sort_unstable_by.ensures.permutation
    (c.sort_unstable_by.ensures.sorted (λ a b. is_lt (order a.0 b.0)) (ranks_by nat_list_cmp_total (λ p. p.0)) (answers_always _ (λ a r. is_lt r ≡ is_lt (order a.0.now.0 a.1.0.now.0)) _ (λ f a r g q. search rules)))
    (λ rise. not_both_ways c.names_rise-2.result e (c.names_rise-2.ensures.1 (subst (λ (ps : List (List ℕ × Tree)). Rise (names ps)) (sym c.as_slice-2.ensures.value) rise)))
