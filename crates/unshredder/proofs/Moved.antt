-- Pairs in another order make the same members.
use Rattle.std.proofs.Common.{◌≡◌, ◌∙◌, sym, ap, subst, refl, ℕ, Bool, true, false, ◌||◌, cond, List, [], ◌∷◌, map}
use Rattle.std.specs.List.{AllByRecursion, IsDistinct, list_any}
use Rattle.std.specs.List.Sorted.{IsPermutation}
use Rattle.std.specs.Str.{bytes_eq}
use Rattle.std.specs.Cmp.Lexicographic.{slice_cmp}
use Rattle.std.specs.Ordering.{nat_cmp, is_lt}
use Rattle.std.proofs.lemmas.List.Sorted.{IsPermutation-refl, IsPermutation-sym, IsPermutation-trans, IsPermutation-cons, IsPermutation-middle, IsPermutation-map}
use Rattle.std.proofs.lemmas.Map.Keys.{IsDistinct-IsPermutation}
use Rattle.std.proofs.lemmas.Slice.Eq.{bytes_eq-Decides}
use Rattle.vs_bytes.specs.Names.{repeats}
use Rattle.json_tree.specs.Json.{Json, Fields, fields_of}
use Rattle.json_tree.specs.Order.{NamesRise, inserted, sorted}
use Rattle.json_tree.specs.View.{seen}
use Rattle.json_tree.specs.declared.types.Tree.{Tree}
use Rattle.json_tree.proofs.MembersMade.{names, field_names}
use Rattle.json_tree.proofs.MembersOrder.{Rise, names_in, no_repeats, sorted_is}

-- Whether a name stands twice.

abbrev same : List ℕ → List ℕ → Bool
same a b = bytes_eq b a

parted : (b c : Bool) → b || c ≡ false → (b ≡ false) × (c ≡ false)
parted false c h = (refl, h)
parted true c h = absurd (let e : true ≡ false = h in cc)

joined : (b c : Bool) → b ≡ false → c ≡ false → b || c ≡ false
joined b c e f = rw (e, f) refl

flips : (a b : List ℕ) → same a b ≡ same b a
flips a b = by (bytes_eq b a) (bytes_eq a b) refl refl
  where
    by : (p q : Bool) → bytes_eq b a ≡ p → bytes_eq a b ≡ q → p ≡ q
    by true true e f = refl
    by false false e f = refl
    by true false e f = absurd (let is : b ≡ a = (bytes_eq-Decides b a).0 e in let yes : bytes_eq a b ≡ true = (bytes_eq-Decides a b).1 (sym is) in let wrong : true ≡ false = sym yes ∙ f in cc)
    by false true e f = absurd (let is : a ≡ b = (bytes_eq-Decides a b).0 f in let yes : bytes_eq b a ≡ true = (bytes_eq-Decides b a).1 (sym is) in let wrong : true ≡ false = sym yes ∙ e in cc)

apart_from : (name : List ℕ) (others : List (List ℕ)) → list_any (λ other. bytes_eq other name) others ≡ false → AllByRecursion (λ y. same name y ≡ false) others
apart_from name [] h = tt
apart_from name (other ∷ others) h =
    let parts = parted (bytes_eq other name) (list_any (λ o. bytes_eq o name) others) h in
    (parts.0, apart_from name others parts.1)

none_from : (name : List ℕ) (others : List (List ℕ)) → AllByRecursion (λ y. same name y ≡ false) others → list_any (λ other. bytes_eq other name) others ≡ false
none_from name [] h = refl
none_from name (other ∷ others) h = joined (bytes_eq other name) (list_any (λ o. bytes_eq o name) others) h.0 (none_from name others h.1)

distinct_from : (all : List (List ℕ)) → repeats all ≡ false → IsDistinct same all
unfolding IsDistinct
distinct_from [] h = tt
distinct_from (name ∷ others) h =
    let parts = parted (list_any (λ o. bytes_eq o name) others) (repeats others) h in
    (apart_from name others parts.0, distinct_from others parts.1)

repeats_from : (all : List (List ℕ)) → IsDistinct same all → repeats all ≡ false
unfolding IsDistinct
repeats_from [] h = refl
repeats_from (name ∷ others) h = joined (list_any (λ o. bytes_eq o name) others) (repeats others) (none_from name others h.0) (repeats_from others h.1)

once_moved : (xs ys : List (List ℕ)) → IsPermutation xs ys → repeats xs ≡ false → repeats ys ≡ false
once_moved xs ys p h = repeats_from ys (IsDistinct-IsPermutation same flips xs ys p (distinct_from xs h))

pub same_repeats : (ps qs : List (List ℕ × Tree)) → IsPermutation ps qs → repeats (map (λ pair. pair.0) qs) ≡ repeats (map (λ pair. pair.0) ps)
same_repeats ps qs p = by (repeats (names qs)) (repeats (names ps)) refl refl
  where
    moved : IsPermutation (names ps) (names qs)
    moved = IsPermutation-map (λ (pair : List ℕ × Tree). pair.0) ps qs p

    by : (b c : Bool) → repeats (names qs) ≡ b → repeats (names ps) ≡ c → b ≡ c
    by true true e f = refl
    by false false e f = refl
    by true false e f = absurd (let once : repeats (names qs) ≡ false = once_moved (names ps) (names qs) moved f in let wrong : true ≡ false = sym e ∙ once in cc)
    by false true e f = absurd (let once : repeats (names ps) ≡ false = once_moved (names qs) (names ps) (IsPermutation-sym (names ps) (names qs) moved) e in let wrong : true ≡ false = sym f ∙ once in cc)

-- What is sorted is in another order.

placed : (b : Bool) (m other : List ℕ × Json) (ms rest : List (List ℕ × Json)) → IsPermutation (m ∷ ms) rest → IsPermutation (m ∷ (other ∷ ms)) (cond b (m ∷ (other ∷ ms)) (other ∷ rest))
placed true m other ms rest p = IsPermutation-refl (m ∷ (other ∷ ms))
placed false m other ms rest p =
    IsPermutation-trans (m ∷ (other ∷ ms)) (other ∷ (m ∷ ms)) (other ∷ rest)
    (IsPermutation-sym (other ∷ (m ∷ ms)) (m ∷ (other ∷ ms)) (IsPermutation-middle (other ∷ []) m ms))
    (IsPermutation-cons other (m ∷ ms) rest p)

inserted_moves : (m : List ℕ × Json) (ms : List (List ℕ × Json)) → IsPermutation (m ∷ ms) (inserted m ms)
inserted_moves m [] = IsPermutation-refl (m ∷ [])
inserted_moves m (other ∷ ms) = placed (is_lt (slice_cmp nat_cmp m.0 other.0)) m other ms (inserted m ms) (inserted_moves m ms)

sorted_moves : (ms : List (List ℕ × Json)) → IsPermutation ms (sorted ms)
sorted_moves [] = IsPermutation-refl []
sorted_moves (m ∷ ms) = IsPermutation-trans (m ∷ ms) (m ∷ sorted ms) (inserted m (sorted ms)) (IsPermutation-cons m ms (sorted ms) (sorted_moves ms)) (inserted_moves m (sorted ms))

pub same_members : (ps qs : List (List ℕ × Tree)) (fs : Fields) → IsPermutation ps qs → fs ≡ fields_of (sorted (map seen qs)) → NamesRise fs → fs ≡ fields_of (sorted (map seen ps))
same_members ps qs fs p e rise =
    let made = sorted (map seen qs) in
    let moved : IsPermutation (map seen ps) made = IsPermutation-trans (map seen ps) (map seen qs) made (IsPermutation-map seen ps qs p) (sorted_moves (map seen qs)) in
    let rising : Rise (names_in made) = subst Rise (field_names made) (subst NamesRise e rise) in
    let once : repeats (names_in (map seen ps)) ≡ false = no_repeats (names_in (map seen ps)) (names_in made) (IsPermutation-map (λ (m : List ℕ × Json). m.0) (map seen ps) made moved) rising in
    e ∙ ap fields_of (sorted_is (map seen ps) made moved once rising)

pub unmoved : (ps : List (List ℕ × Tree)) → IsPermutation ps ps
unmoved ps = IsPermutation-refl ps
