use Rattle.std.proofs.Common.{sym, subst, List, ℕ, ◌<◌, length, Result, Ok, Err, IfOk}
use Rattle.std.specs.List.{concat}
use Rattle.json_tree.specs.View.{view}
use Rattle.variant_meta.specs.Dictionaries.{count_bound, bytes_bound}
use Rattle.variant_write.proofs.DictionaryNames.{gathered_has, gathered_is}
use Rattle.variant_write.proofs.NameLimits.{names_few, names_small}
use Rattle.variant_write.proofs.NamesAmong.{Among}
use Rattle.variant_write.proofs.collecting.dictionary_of.Goals as goal

both : {A E : Type 0} (P Q R : A → Type 0) (r : Result A E) → IfOk r P → IfOk r Q → ((a : A) → P a → Q a → R a) → IfOk r R
both P Q R (Ok a) p q f = f a p q
both P Q R (Err e) p q f = tt

pub from_names-requires-clause-few : goal.from_names-requires-clause-few
from_names-requires-clause-few c =
    subst (λ (names : List (List ℕ)). length names < count_bound) (sym c.in_ok-names.ensures) (names_few (view c.args.tree.now) c.requires.small)

pub from_names-requires-clause-small : goal.from_names-requires-clause-small
from_names-requires-clause-small c =
    subst (λ (names : List (List ℕ)). length (concat names) < bytes_bound) (sym c.in_ok-names.ensures) (names_small (view c.args.tree.now) c.requires.small)

pub returns-clause-names : goal.returns-clause-names
returns-clause-names c =
    let gathered = c.in_ok-names.names.items in
    both _ _ _ c.from_names.result c.from_names.ensures.dictionary c.from_names.ensures.same
    (λ d is same. gathered_is d gathered (view c.args.tree.now) is.rising same (λ x a. subst (Among x) (sym c.in_ok-names.ensures) a) (λ x a. subst (Among x) c.in_ok-names.ensures a))

pub returns-clause-has : goal.returns-clause-has
returns-clause-has c =
    let gathered = c.in_ok-names.names.items in
    both _ _ _ c.from_names.result c.from_names.ensures.dictionary c.from_names.ensures.same
    (λ d is same. gathered_has d gathered (view c.args.tree.now) same (λ x a. subst (Among x) (sym c.in_ok-names.ensures) a))
