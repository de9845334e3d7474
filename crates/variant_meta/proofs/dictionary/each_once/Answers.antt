use Rattle.std.proofs.Common.{subst, sym, List, ℕ, nat_eq, arith}
use Rattle.std.specs.Cmp.Lexicographic.{pointwise, texts_ties, same_text}
use Rattle.std.specs.List.{Contains, dedup}
use Rattle.std.proofs.lemmas.Cmp.{nat_list_cmp_total, nat_list_eq_equiv}
use Rattle.std.proofs.lemmas.List.Filters.{dedup_is}
use Rattle.std.proofs.lemmas.List.Kept.{IsStrictlySortedBy-dedup, Contains-dedup, Contains-from_dedup}
use Rattle.std.proofs.lemmas.List.Sorted.{Contains-permutation, IsPermutation-sym, length_permutation}
use Rattle.variant_meta.proofs.Kept.{total_sorted, fewer, less, rise_sorted}
use Rattle.variant_meta.specs.Dictionaries.{IsDictionary}
use Rattle.variant_meta.proofs.dictionary.each_once.Goals as goal

pub returns-clause-dictionary : goal.returns-clause-dictionary
returns-clause-dictionary c =
    let sorted = c.sort_unstable.new.self.items in
    let left = dedup_is (pointwise nat_eq) sorted c.dedup.new.self.items c.dedup.ensures.filtered in
    let count = length_permutation c.args.names.items sorted c.sort_unstable.ensures.permutation in
    let total = total_sorted c.args.names.items sorted c.sort_unstable.ensures.permutation in
    let few = fewer (pointwise nat_eq) sorted in
    let small = less (pointwise nat_eq) sorted in
    subst IsDictionary (sym left) (record {
      rising = rise_sorted (dedup (pointwise nat_eq) sorted) (IsStrictlySortedBy-dedup nat_list_cmp_total texts_ties sorted c.sort_unstable.ensures.sorted);
      few = omega (arith, count, few, c.requires.few);
      small = omega (arith, total, small, c.requires.small);
    })

pub returns-clause-same : goal.returns-clause-same
returns-clause-same c = λ n.
    let sorted = c.sort_unstable.new.self.items in
    let left = dedup_is (pointwise nat_eq) sorted c.dedup.new.self.items c.dedup.ensures.filtered in (
      λ h. Contains-permutation _ _ n (IsPermutation-sym _ _ c.sort_unstable.ensures.permutation) (Contains-from_dedup (pointwise nat_eq) sorted n (subst (λ (xs : List (List ℕ)). Contains xs n) left h)),
      λ h. subst (λ (xs : List (List ℕ)). Contains xs n) (sym left) (Contains-dedup nat_list_eq_equiv (λ x y e. same_text x y (sym e)) sorted n (Contains-permutation _ _ n c.sort_unstable.ensures.permutation h)),
    )
