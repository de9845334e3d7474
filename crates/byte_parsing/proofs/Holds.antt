-- What holds of a value that is read, if one is: a lemma for each way in which readings are joined.
use Rattle.std.proofs.Common.{◌≡◌, ◌∙◌, refl, ap, subst, ℕ, List, [], ◌∷◌, ◌++◌, Bool, true, false, cond, Option, Some, None, eqb-true}
use Rattle.std.specs.Option.{option_map}
use Rattle.byte_parsing.specs.Lists.{list_end}
use Rattle.byte_parsing.specs.Parse.{and_then, past, past_word}

pub record Holds {A : Type 0} (P : A → Type 0) (o : Option A) : Type 0 where
  pub here : (a : A) → o ≡ Some a → P a

pub holds_none : {A : Type 0} (P : A → Type 0) → Holds P None
holds_none P = record { here = λ a e. cc }

pub holds_some : {A : Type 0} (P : A → Type 0) (a : A) → P a → Holds P (Some a)
holds_some P a p = record { here = λ b e. let same : a ≡ b = cc in subst P same p }

pub holds_as : {A : Type 0} (P Q : A → Type 0) (o : Option A) → Holds P o → ((a : A) → P a → Q a) → Holds Q o
holds_as P Q o h k = record { here = λ a e. k a (h.here a e) }

pub holds_then : {A B : Type 0} (Q : A → Type 0) (P : B → Type 0) (o : Option A) (f : A → Option B) → Holds Q o → ((a : A) → Q a → Holds P (f a)) → Holds P (and_then o f)
holds_then Q P None f h k = holds_none P
holds_then Q P (Some a) f h k = k a (h.here a refl)

pub holds_map : {A B : Type 0} (Q : A → Type 0) (P : B → Type 0) (o : Option A) (f : A → B) → Holds Q o → ((a : A) → Q a → P (f a)) → Holds P (option_map f o)
holds_map Q P None f h k = holds_none P
holds_map Q P (Some a) f h k = holds_some P (f a) (k a (h.here a refl))

pub holds_if : {A : Type 0} (P : A → Type 0) (b : Bool) (o q : Option A) → (b ≡ true → Holds P o) → (b ≡ false → Holds P q) → Holds P (cond b o q)
holds_if P true o q h k = h refl
holds_if P false o q h k = k refl

pub holds_past : (b : ℕ) (xs : List ℕ) → Holds (λ rest. xs ≡ b ∷ rest) (past b xs)
holds_past b [] = holds_none (λ rest. [] ≡ b ∷ rest)
holds_past b (x ∷ xs) =
    holds_if (λ rest. x ∷ xs ≡ b ∷ rest) _ _ _ (λ e. holds_some _ xs (ap (λ y. y ∷ xs) (eqb-true x b e))) (λ e. holds_none _)

pub holds_word : (word xs : List ℕ) → Holds (λ rest. xs ≡ word ++ rest) (past_word word xs)
holds_word [] xs = holds_some _ xs refl
holds_word (b ∷ word) xs =
    holds_then _ _ _ _ (holds_past b xs) (λ ys e. holds_as _ _ _ (holds_word word ys) (λ rest f. e ∙ ap (λ zs. b ∷ zs) f))

pub holds_list_end : {A : Type 0} (Q : List ℕ → Type 0) (P : A × List ℕ → Type 0) (value : A) (o : Option (List ℕ)) (q : Option (A × List ℕ)) → Holds Q o → ((rest : List ℕ) → Q rest → P (value, rest)) → Holds P q → Holds P (list_end value o q)
holds_list_end Q P value None q h k l = l
holds_list_end Q P value (Some rest) q h k l = holds_some P (value, rest) (k rest (h.here rest refl))
