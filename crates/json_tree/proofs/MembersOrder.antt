-- Members in the order of their names: pairs whose names strictly rise are `sorted` of any order of them.
use Rattle.std.proofs.Common.{◌≡◌, ◌∙◌, ◌⊎◌, inl, inr, ℕ, suc, zero, ◌+◌, ◌<◌, Bool, true, false, cond, ◌||◌, List, [], ◌∷◌, length, get_or, map, refl, sym, ap, subst, arith}
use Rattle.std.specs.Prelude.{bytes_eq, Contains}
use Rattle.std.specs.Cmp.{IsTotalOrder}
use Rattle.std.specs.Cmp.Lexicographic.{slice_cmp, texts_ties}
use Rattle.std.specs.List.{AllByRecursion, IsDistinct, list_any}
use Rattle.std.specs.List.Sorted.{IsPermutation, IsSortedBy, IsStrictlySortedBy}
use Rattle.std.specs.Ordering.{nat_cmp, is_lt, is_eq, eq_by_cmp, ordering_reverse}
use Rattle.std.proofs.Common.{Ordering, Less, Equal, Greater}
use Rattle.std.proofs.lemmas.Cmp.{nat_list_cmp_total}
use Rattle.std.proofs.lemmas.List.Sorted.{Contains-permutation, IsPermutation-sym}
use Rattle.std.proofs.lemmas.Map.Keys.{sorted_head, sorted_tail, IsDistinct-from_sorted, IsDistinct-IsPermutation, apart_from_distinct, sorted_from_all_adjacent}
use Rattle.vs_bytes.specs.Names.{repeats}
use Rattle.json_tree.specs.Json.{Json}
use Rattle.json_tree.specs.Order.{inserted, sorted}

abbrev pub order : List ℕ → List ℕ → Ordering
order = slice_cmp nat_cmp

abbrev pub Rise : List (List ℕ) → Type 0
Rise names = IsStrictlySortedBy (slice_cmp nat_cmp) names

abbrev pub names_in : List (List ℕ × Json) → List (List ℕ)
names_in ms = map (λ m. m.0) ms

-- ---- elements of a list

abbrev pub Among : {X : Type 0} → X → List X → Type 0
Among x [] = ⊥
Among x (y ∷ ys) = (x ≡ y) ⊎ Among x ys

among_from_contains : {X : Type 0} (xs : List X) (x : X) (k : ℕ) → k < length xs → get_or xs k x ≡ x → Among x xs
among_from_contains [] x k h e = omega arith
among_from_contains (y ∷ ys) x zero h e = inl (sym e)
among_from_contains (y ∷ ys) x (suc k) h e = inr (among_from_contains ys x k (omega arith) e)

contains_from_among : {X : Type 0} (xs : List X) (x : X) → Among x xs → Contains xs x
contains_from_among [] x a = absurd a
contains_from_among (y ∷ ys) x (inl e) = (0, omega arith, sym e)
contains_from_among (y ∷ ys) x (inr a) = let at = contains_from_among ys x a in (suc at.0, omega (arith, at.1), at.2)

among_permutation : {X : Type 0} (xs ys : List X) → IsPermutation xs ys → (x : X) → Among x xs → Among x ys
among_permutation xs ys p x a = let at = Contains-permutation xs ys x p (contains_from_among xs x a) in among_from_contains ys x at.0 at.1 at.2

all_at : (P : List ℕ → Type 0) (ms : List (List ℕ × Json)) → AllByRecursion P (names_in ms) → (x : List ℕ × Json) → Among x ms → P x.0
all_at P [] h x a = absurd a
all_at P (m ∷ ms) h x (inl e) = subst (λ (y : List ℕ × Json). P y.0) (sym e) h.0
all_at P (m ∷ ms) h x (inr a) = all_at P ms h.1 x a

all_from : (P : List ℕ → Type 0) (ms : List (List ℕ × Json)) → ((x : List ℕ × Json) → Among x ms → P x.0) → AllByRecursion P (names_in ms)
all_from P [] f = tt
all_from P (m ∷ ms) f = (f m (inl refl), all_from P ms (λ x a. f x (inr a)))

-- ---- names that rise

below : (m : List ℕ × Json) (ms : List (List ℕ × Json)) (x : List ℕ × Json) → Rise (names_in (m ∷ ms)) → Among x ms → order m.0 x.0 ≡ Less
below m ms x h a = all_at (λ y. order m.0 y ≡ Less) ms (sorted_head order m.0 (names_in ms) h) x a

rise_nil : Rise []
unfolding IsStrictlySortedBy
rise_nil = tt

rise_cons : (m : List ℕ × Json) (ms : List (List ℕ × Json)) → ((x : List ℕ × Json) → Among x ms → order m.0 x.0 ≡ Less) → Rise (names_in ms) → Rise (names_in (m ∷ ms))
unfolding IsStrictlySortedBy
rise_cons m ms f h = (all_from (λ y. order m.0 y ≡ Less) ms f, h)

pub turned : (a b : List ℕ) → order a b ≡ ordering_reverse (order b a)
turned a b = let o : IsTotalOrder order = nat_list_cmp_total in o.antisymm a b

not_both : (a b : List ℕ) → order a b ≡ Less → order b a ≡ Less → ⊥
not_both a b p q = let e : Less ≡ Greater = sym p ∙ turned a b ∙ ap ordering_reverse q in cc

-- ---- at most one list of given members rises

first_same : (e : List ℕ × Json) (es : List (List ℕ × Json)) (f : List ℕ × Json) (fs : List (List ℕ × Json)) → Rise (names_in (e ∷ es)) → Rise (names_in (f ∷ fs)) → Among e (f ∷ fs) → Among f (e ∷ es) → e ≡ f
first_same e es f fs g h (inl p) b = p
first_same e es f fs g h (inr a) (inl q) = sym q
first_same e es f fs g h (inr a) (inr b) = absurd (not_both f.0 e.0 (below f fs e h a) (below e es f g b))

rest_same : (e : List ℕ × Json) (es : List (List ℕ × Json)) (f : List ℕ × Json) (fs : List (List ℕ × Json)) → Rise (names_in (e ∷ es)) → e ≡ f → (x : List ℕ × Json) → Among x es → Among x (f ∷ fs) → Among x fs
rest_same e es f fs g same x a (inl q) =
    let less : order e.0 x.0 ≡ Less = below e es x g a in
    let itself : order e.0 e.0 ≡ Less = subst (λ (y : List ℕ × Json). order e.0 y.0 ≡ Less) (q ∙ sym same) less in
    absurd (not_both e.0 e.0 itself itself)
rest_same e es f fs g same x a (inr b) = b

one_rises : (es fs : List (List ℕ × Json)) → Rise (names_in es) → Rise (names_in fs) → ((x : List ℕ × Json) → Among x es → Among x fs) → ((x : List ℕ × Json) → Among x fs → Among x es) → es ≡ fs
one_rises [] [] g h to from = refl
one_rises [] (f ∷ fs) g h to from = absurd (from f (inl refl))
one_rises (e ∷ es) [] g h to from = absurd (to e (inl refl))
one_rises (e ∷ es) (f ∷ fs) g h to from =
    let same : e ≡ f = first_same e es f fs g h (to e (inl refl)) (from f (inl refl)) in
    let rest : es ≡ fs = one_rises es fs (sorted_tail order e.0 (names_in es) g) (sorted_tail order f.0 (names_in fs) h)
    (λ x a. rest_same e es f fs g same x a (to x (inr a)))
    (λ x a. rest_same f fs e es h (sym same) x a (from x (inr a))) in
    λ i. same i ∷ rest i

-- ---- repeats

or_left : (a b : Bool) → (a || b) ≡ false → a ≡ false
or_left true b e = e
or_left false b e = refl

or_right : (a b : Bool) → (a || b) ≡ false → b ≡ false
or_right true b e = absurd (cc)
or_right false b e = e

is_eq_turned : (r : Ordering) → is_eq (ordering_reverse r) ≡ is_eq r
is_eq_turned Less = refl
is_eq_turned Equal = refl
is_eq_turned Greater = refl

flips : (a b : List ℕ) → eq_by_cmp order a b ≡ eq_by_cmp order b a
flips a b = ap is_eq (turned a b) ∙ is_eq_turned (order b a)

tied : (a b : List ℕ) → bytes_eq a b ≡ eq_by_cmp order b a
tied a b = texts_ties a b ∙ flips a b

apart_from : (name : List ℕ) (names : List (List ℕ)) → list_any (λ other. bytes_eq other name) names ≡ false → AllByRecursion (λ y. eq_by_cmp order name y ≡ false) names
apart_from name [] e = tt
apart_from name (other ∷ names) e =
    (sym (tied other name) ∙ or_left (bytes_eq other name) (list_any (λ o. bytes_eq o name) names) e, apart_from name names (or_right (bytes_eq other name) (list_any (λ o. bytes_eq o name) names) e))

none_from : (name : List ℕ) (names : List (List ℕ)) → AllByRecursion (λ y. eq_by_cmp order name y ≡ false) names → list_any (λ other. bytes_eq other name) names ≡ false
none_from name [] h = refl
none_from name (other ∷ names) h = rw (tied other name, h.0) (none_from name names h.1)

distinct_from : (names : List (List ℕ)) → repeats names ≡ false → IsDistinct (eq_by_cmp order) names
unfolding IsDistinct
distinct_from [] e = tt
distinct_from (name ∷ names) e =
    (apart_from name names (or_left (list_any (λ o. bytes_eq o name) names) (repeats names) e), distinct_from names (or_right (list_any (λ o. bytes_eq o name) names) (repeats names) e))

repeats_from : (names : List (List ℕ)) → IsDistinct (eq_by_cmp order) names → repeats names ≡ false
unfolding IsDistinct
repeats_from [] h = refl
repeats_from (name ∷ names) h = rw (none_from name names h.0) (repeats_from names h.1)

-- names that rise in some order do not repeat
pub no_repeats : (names others : List (List ℕ)) → IsPermutation names others → Rise others → repeats names ≡ false
no_repeats names others p h = repeats_from names (IsDistinct-IsPermutation (eq_by_cmp order) flips others names (IsPermutation-sym names others p) (IsDistinct-from_sorted order others h))

less_from : (r : Ordering) → is_lt (ordering_reverse r) ≡ false → is_eq r ≡ false → r ≡ Less
less_from Less a b = refl
less_from Equal a b = absurd (cc)
less_from Greater a b = absurd (cc)

-- names that do not fall and do not repeat rise
pub rise_from_sorted : (names others : List (List ℕ)) → IsPermutation names others → IsSortedBy (λ a b. is_lt (slice_cmp nat_cmp a b)) others → repeats names ≡ false → Rise others
rise_from_sorted names others p s e =
    let distinct : IsDistinct (eq_by_cmp order) others = IsDistinct-IsPermutation (eq_by_cmp order) flips names others p (distinct_from names e) in
    sorted_from_all_adjacent nat_list_cmp_total others [] (λ k h.
    let a = get_or others k [] in
    let b = get_or others (k + 1) [] in
    let not_above : is_lt (ordering_reverse (order a b)) ≡ false = ap is_lt (sym (turned b a)) ∙ s k [] (omega arith) h in
    less_from (order a b) not_above (apart_from_distinct (eq_by_cmp order) others k (k + 1) [] distinct (omega arith) h))

-- ---- `sorted` keeps the members, and its names rise

in_cond : (b : Bool) (m other x : List ℕ × Json) (ms rest : List (List ℕ × Json)) → (Among x rest → Among x (m ∷ ms)) → Among x (cond b (m ∷ (other ∷ ms)) (other ∷ rest)) → Among x (m ∷ (other ∷ ms))
in_cond true m other x ms rest f a = a
in_cond false m other x ms rest f (inl e) = inr (inl e)
in_cond false m other x ms rest f (inr a) = elim (f a) [ inl e ↦ inl e | inr b ↦ inr (inr b) ]

in_inserted : (m : List ℕ × Json) (ms : List (List ℕ × Json)) (x : List ℕ × Json) → Among x (inserted m ms) → Among x (m ∷ ms)
in_inserted m [] x a = a
in_inserted m (other ∷ ms) x a = in_cond (is_lt (order m.0 other.0)) m other x ms (inserted m ms) (in_inserted m ms x) a

out_cond : (b : Bool) (m other x : List ℕ × Json) (ms rest : List (List ℕ × Json)) → (Among x (m ∷ ms) → Among x rest) → Among x (m ∷ (other ∷ ms)) → Among x (cond b (m ∷ (other ∷ ms)) (other ∷ rest))
out_cond true m other x ms rest f a = a
out_cond false m other x ms rest f (inl e) = inr (f (inl e))
out_cond false m other x ms rest f (inr (inl e)) = inl e
out_cond false m other x ms rest f (inr (inr a)) = inr (f (inr a))

out_inserted : (m : List ℕ × Json) (ms : List (List ℕ × Json)) (x : List ℕ × Json) → Among x (m ∷ ms) → Among x (inserted m ms)
out_inserted m [] x a = a
out_inserted m (other ∷ ms) x a = out_cond (is_lt (order m.0 other.0)) m other x ms (inserted m ms) (out_inserted m ms x) a

in_sorted : (ms : List (List ℕ × Json)) (x : List ℕ × Json) → Among x (sorted ms) → Among x ms
in_sorted [] x a = a
in_sorted (m ∷ ms) x a = elim (in_inserted m (sorted ms) x a) [ inl e ↦ inl e | inr b ↦ inr (in_sorted ms x b) ]

out_sorted : (ms : List (List ℕ × Json)) (x : List ℕ × Json) → Among x ms → Among x (sorted ms)
out_sorted [] x a = a
out_sorted (m ∷ ms) x (inl e) = out_inserted m (sorted ms) x (inl e)
out_sorted (m ∷ ms) x (inr a) = out_inserted m (sorted ms) x (inr (out_sorted ms x a))

at_member : (name : List ℕ) (m x : List ℕ × Json) → x ≡ m → order name m.0 ≡ Less → order name x.0 ≡ Less
at_member name m x e h = ap (λ (y : List ℕ × Json). order name y.0) e ∙ h

rise_placed : (r : Ordering) (m other : List ℕ × Json) (ms : List (List ℕ × Json)) → order m.0 other.0 ≡ r → (r ≡ Equal → ⊥) → Rise (names_in (other ∷ ms)) → Rise (names_in (inserted m ms)) → Rise (names_in (cond (is_lt r) (m ∷ (other ∷ ms)) (other ∷ inserted m ms)))
rise_placed Less m other ms p f h rest =
    let o : IsTotalOrder order = nat_list_cmp_total in
    rise_cons m (other ∷ ms) (λ x a. elim a [ inl e ↦ at_member m.0 other x e p | inr b ↦ o.trans m.0 other.0 x.0 p (below other ms x h b) ]) h
rise_placed Equal m other ms p f h rest = absurd (f refl)
rise_placed Greater m other ms p f h rest =
    let less : order other.0 m.0 ≡ Less = turned other.0 m.0 ∙ ap ordering_reverse p in
    rise_cons other (inserted m ms) (λ x a. elim (in_inserted m ms x a) [ inl e ↦ at_member other.0 m x e less | inr b ↦ below other ms x h b ]) rest

rise_inserted : (m : List ℕ × Json) (ms : List (List ℕ × Json)) → Rise (names_in ms) → ((x : List ℕ × Json) → Among x ms → order m.0 x.0 ≡ Equal → ⊥) → Rise (names_in (inserted m ms))
rise_inserted m [] h f = rise_cons m [] (λ x a. absurd a) h
rise_inserted m (other ∷ ms) h f =
    rise_placed (order m.0 other.0) m other ms refl (f other (inl refl)) h (rise_inserted m ms (sorted_tail order other.0 (names_in ms) h) (λ x a. f x (inr a)))

not_equal : (a b : List ℕ) → eq_by_cmp order a b ≡ false → order a b ≡ Equal → ⊥
not_equal a b e p = let h : true ≡ false = sym (ap is_eq p) ∙ e in cc

rise_sorted : (ms : List (List ℕ × Json)) → repeats (names_in ms) ≡ false → Rise (names_in (sorted ms))
rise_sorted [] e = rise_nil
rise_sorted (m ∷ ms) e =
    let new : list_any (λ other. bytes_eq other m.0) (names_in ms) ≡ false = or_left _ (repeats (names_in ms)) e in
    rise_inserted m (sorted ms) (rise_sorted ms (or_right (list_any (λ other. bytes_eq other m.0) (names_in ms)) _ e))
    (λ x a. not_equal m.0 x.0 (all_at (λ y. eq_by_cmp order m.0 y ≡ false) ms (apart_from m.0 (names_in ms) new) x (in_sorted ms x a)))

-- members in an order in which their names rise are `sorted`
pub sorted_is : (ms others : List (List ℕ × Json)) → IsPermutation ms others → repeats (names_in ms) ≡ false → Rise (names_in others) → others ≡ sorted ms
sorted_is ms others p e h =
    one_rises others (sorted ms) h (rise_sorted ms e)
    (λ x a. out_sorted ms x (among_permutation others ms (IsPermutation-sym ms others p) x a))
    (λ x a. among_permutation ms others p x (in_sorted ms x a))
