-- Lists that are written.
use Rattle.std.proofs.Common.{◌≡◌, refl, ℕ, ◌^◌, ◌<◌, List, [], ◌∷◌, ◌++◌, length, append_assoc}
use Rattle.std.specs.List.{All, flat_map}
use Rattle.std.proofs.lemmas.List.Elements.{All-nil, All-cons}
use Rattle.thrift_compact.specs.Trees.{Value}
use Rattle.thrift_compact.specs.Coded.{list_bytes, how_many, coded, elements_coded}
use Rattle.thrift_structs.specs.Listed.{elements_of, list_tree, ListFits}

pub size_is : {A : Type 0} (tree : A → Value) (xs : List A) → how_many (elements_of tree xs) ≡ length xs
unfolding elements_of
size_is tree [] = refl
size_is tree (x ∷ xs) = rw (size_is tree xs) refl

bytes_are : {A : Type 0} (tree : A → Value) (xs : List A) → elements_coded (elements_of tree xs) ≡ flat_map (λ x. coded (tree x)) xs
unfolding elements_of elements_coded
bytes_are tree [] = refl
bytes_are tree (x ∷ xs) = rw (bytes_are tree xs) refl

-- the header, then the elements
pub list_joined : {A : Type 0} (tree : A → Value) (kind : ℕ) (xs : List A) (old : List ℕ) → (old ++ list_bytes kind (length xs)) ++ flat_map (λ x. coded (tree x)) xs ≡ old ++ coded (list_tree kind tree xs)
unfolding coded
list_joined tree kind xs old = rw (size_is tree xs, bytes_are tree xs) (append_assoc old (list_bytes kind (length xs)) (flat_map (λ x. coded (tree x)) xs))

always : {A : Type 0} (xs : List A) → All (λ x. Unit {0}) xs
always {A = A} [] = All-nil (λ (x : A). Unit {0})
always {A = A} (x ∷ xs) = All-cons (λ (y : A). Unit {0}) x xs tt (always xs)

-- a list of items that always have bytes
pub plain_fit : {A : Type 0} (xs : List A) → length xs < 2 ^ 32 → ListFits (λ x. Unit {0}) xs
plain_fit xs h = record { size = h; each = always xs }
