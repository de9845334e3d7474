-- Names that are kept for the next value.
use Rattle.std.proofs.Common.{◌≡◌, ◌∙◌, refl, ℕ, Bool, true, List, [], ◌∷◌, ◌++◌, length, ap, sym, subst, arith}
use Rattle.std.specs.Prelude.{◌==◌, IsTrue}
use Rattle.std.proofs.lemmas.Bool.Decides.{nat_tests}
use Rattle.std.proofs.lemmas.List.{append-nil}
use Rattle.json_tree.specs.Json.{Json}
use Rattle.variant_write.specs.Conditions.{HasNames}
use Rattle.variant_write.specs.Dictionaries.{object_names, each_once, dictionary}
use Rattle.variant_write.proofs.DictionaryNames.{dictionary_has}

-- of a value that was read
pub own_names : (names dict : List (List ℕ)) (j : Json) → names ≡ object_names j → dict ≡ dictionary j → dict ≡ each_once names
unfolding dictionary
own_names names dict j all is = is ∙ ap each_once (sym all)

pub nothing_left : (rest : List (List ℕ)) (empty : Bool) → empty ≡ (length rest == 0) → IsTrue empty → rest ≡ []
nothing_left [] empty is holds = refl
nothing_left (name ∷ rest) empty is holds =
    let some : (length (name ∷ rest) == 0) ≡ true = sym is ∙ holds in
    let none : length (name ∷ rest) ≡ 0 = grind (arith, nat_tests, some) in absurd (omega (arith, none))

-- of a value that has the same names
pub same_names : (names dict rest : List (List ℕ)) (j : Json) → dict ≡ each_once names → names ≡ object_names j ++ rest → rest ≡ [] → dict ≡ dictionary j
unfolding dictionary
same_names names dict rest j own all none =
    own ∙ ap each_once (all ∙ (ap (λ (r : List (List ℕ)). object_names j ++ r) none ∙ append-nil (object_names j)))

pub has_names : (dict : List (List ℕ)) (j : Json) → dict ≡ dictionary j → HasNames dict j
has_names dict j is = subst (λ (names : List (List ℕ)). HasNames names j) (sym is) (dictionary_has j)
