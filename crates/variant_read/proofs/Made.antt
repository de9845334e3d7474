-- Trees made of the items of a value, one by one.
use Rattle.std.proofs.Common.{◌≡◌, ◌∙◌, refl, sym, ap, subst, ℕ, zero, suc, ◌+◌, ◌≤◌, List, [], ◌∷◌, ◌++◌, length, drop, map, true, Option, Some, None, arith, append_assoc, Ordering, Less, Equal, Greater}
use Rattle.std.specs.Prelude.{slice_get}
use Rattle.std.specs.Option.{option_map}
use Rattle.std.specs.Ordering.{nat_cmp, is_lt}
use Rattle.std.specs.Cmp.Lexicographic.{slice_cmp}
use Rattle.std.specs.List.Sorted.{IsStrictlySortedBy}
use Rattle.std.proofs.lemmas.Cmp.{nat_list_cmp_total}
use Rattle.std.proofs.lemmas.List.{append-nil, map-append}
use Rattle.std.proofs.lemmas.List.Sorted.{IsPermutation-refl}
use Rattle.std.proofs.lemmas.Map.Keys.{sorted_from_all_adjacent}
use Rattle.vs_bytes.specs.Names.{repeats}
use Rattle.json_tree.specs.Json.{Json, fields_of}
use Rattle.json_tree.specs.Order.{sorted}
use Rattle.json_tree.specs.View.{view, seen}
use Rattle.json_tree.specs.declared.types.Tree.{Tree}
use Rattle.json_tree.proofs.MembersMade.{members_made, not_repeated}
use Rattle.variant_meta.specs.Names.{name_at, names_rise}
use Rattle.variant_meta.proofs.Places.{rises_between}
use Rattle.variant_read.specs.Items.{member_names}

-- Names that rise.

less_is : (r : Ordering) → is_lt r ≡ true → r ≡ Less
less_is Less e = refl
less_is Equal e = cc
less_is Greater e = cc

rise_sorted : (names : List (List ℕ)) → names_rise names ≡ true → IsStrictlySortedBy (slice_cmp nat_cmp) names
rise_sorted names h =
    sorted_from_all_adjacent nat_list_cmp_total names [] (λ k inside. less_is (slice_cmp nat_cmp (name_at names k) (name_at names (k + 1))) (rises_between names k (k + 1) h (omega arith) inside))

seen_names : (pairs : List (List ℕ × Tree)) → member_names (map seen pairs) ≡ map (λ pair. pair.0) pairs
seen_names [] = refl
seen_names (pair ∷ pairs) = ap (λ (rest : List (List ℕ)). pair.0 ∷ rest) (seen_names pairs)

pairs_sorted : (pairs : List (List ℕ × Tree)) → names_rise (member_names (map seen pairs)) ≡ true → IsStrictlySortedBy (slice_cmp nat_cmp) (map (λ pair. pair.0) pairs)
pairs_sorted pairs h = rise_sorted (map (λ pair. pair.0) pairs) (subst (λ (names : List (List ℕ)). names_rise names ≡ true) (seen_names pairs) h)

pub members_made_of : (pairs : List (List ℕ × Tree)) → names_rise (member_names (map seen pairs)) ≡ true → fields_of (sorted (map seen pairs)) ≡ fields_of (map seen pairs)
members_made_of pairs h = sym (members_made pairs pairs (IsPermutation-refl pairs) (pairs_sorted pairs h))

pub not_repeated_in : (pairs : List (List ℕ × Tree)) → names_rise (member_names (map seen pairs)) ≡ true → repeats (map (λ pair. pair.0) pairs) ≡ true → ⊥
not_repeated_in pairs h e = not_repeated pairs pairs (IsPermutation-refl pairs) (pairs_sorted pairs h) e

-- One turn: what is made, with what is left, is all.

dropped : {X : Type 0} (xs : List X) (k : ℕ) (x : X) → slice_get xs k ≡ Some x → drop k xs ≡ x ∷ drop (k + 1) xs
dropped [] k x h = absurd (cc)
dropped (y ∷ ys) zero x h = let e : y ≡ x = cc in ap (λ z. z ∷ ys) e
dropped (y ∷ ys) (suc k) x h = let e : suc k + 1 ≡ suc (k + 1) = omega arith in rw e (dropped ys k x h)

drop_all : {X : Type 0} (xs : List X) (k : ℕ) → length xs ≤ k → drop k xs ≡ []
drop_all [] zero h = refl
drop_all [] (suc k) h = refl
drop_all (x ∷ xs) zero h = absurd (omega (arith, h))
drop_all (x ∷ xs) (suc k) h = drop_all xs k (omega (arith, h))

pub item_turn : (trees : List Tree) (tree : Tree) (items : List Json) (k : ℕ) → map view trees ++ drop k items ≡ items → slice_get items k ≡ Some (view tree) → map view (trees ++ tree ∷ []) ++ drop (k + 1) items ≡ items
item_turn trees tree items k h listed =
    ap (λ (made : List Json). made ++ drop (k + 1) items) (map-append view trees (tree ∷ []))
    ∙ append_assoc (map view trees) (view tree ∷ []) (drop (k + 1) items)
    ∙ ap (λ (rest : List Json). map view trees ++ rest) (sym (dropped items k (view tree) listed)) ∙ h

pub all_items : (trees : List Tree) (items : List Json) (k : ℕ) → map view trees ++ drop k items ≡ items → length items ≤ k → map view trees ≡ items
all_items trees items k h past =
    sym (append-nil (map view trees)) ∙ ap (λ (rest : List Json). map view trees ++ rest) (sym (drop_all items k past)) ∙ h

member_is : (members : List (List ℕ × Json)) (k : ℕ) (name : List ℕ) (j : Json) → option_map (λ member. member.0) (slice_get members k) ≡ Some name → option_map (λ member. member.1) (slice_get members k) ≡ Some j → slice_get members k ≡ Some (name, j)
member_is members k name j g h = by (slice_get members k) g h
  where
    by : (m : Option (List ℕ × Json)) → option_map (λ member. member.0) m ≡ Some name → option_map (λ member. member.1) m ≡ Some j → m ≡ Some (name, j)
    by None g h = absurd (cc)
    by (Some m) g h =
        let first : m.0 ≡ name = cc in
        let second : m.1 ≡ j = cc in
        λ i. Some (first i, second i)

pub member_turn : (pairs : List (List ℕ × Tree)) (name : List ℕ) (tree : Tree) (members : List (List ℕ × Json)) (k : ℕ) → map seen pairs ++ drop k members ≡ members → option_map (λ member. member.0) (slice_get members k) ≡ Some name → option_map (λ member. member.1) (slice_get members k) ≡ Some (view tree) → map seen (pairs ++ (name, tree) ∷ []) ++ drop (k + 1) members ≡ members
member_turn pairs name tree members k h named listed =
    ap (λ (made : List (List ℕ × Json)). made ++ drop (k + 1) members) (map-append seen pairs ((name, tree) ∷ []))
    ∙ append_assoc (map seen pairs) ((name, view tree) ∷ []) (drop (k + 1) members)
    ∙ ap (λ (rest : List (List ℕ × Json)). map seen pairs ++ rest) (sym (dropped members k (name, view tree) (member_is members k name (view tree) named listed))) ∙ h

pub all_members : (pairs : List (List ℕ × Tree)) (members : List (List ℕ × Json)) (k : ℕ) → map seen pairs ++ drop k members ≡ members → length members ≤ k → map seen pairs ≡ members
all_members pairs members k h past =
    sym (append-nil (map seen pairs)) ∙ ap (λ (rest : List (List ℕ × Json)). map seen pairs ++ rest) (sym (drop_all members k past)) ∙ h
