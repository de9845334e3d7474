-- The place of a name among names.
use Rattle.std.proofs.Common.{◌≡◌, ◌∙◌, ◌⊎◌, inl, inr, refl, sym, ap, subst, ℕ, zero, suc, ◌+◌, ◌<◌, ◌≤◌, nat_lt, List, [], ◌∷◌, length, drop, Bool, true, false, ◌&&◌, bytes_eq, cond, IsUtf8, arith}
use Rattle.std.specs.declared.cmp.Ordering.{Ordering}
use Rattle.std.specs.declared.cmp.Ordering.TheVariants.{Less, Equal, Greater}
use Rattle.std.specs.Ordering.{nat_cmp, is_lt, is_eq, ordering_reverse}
use Rattle.std.specs.Cmp.Lexicographic.{slice_cmp, same_text, texts_ties}
use Rattle.std.proofs.lemmas.Bool.{cases_lt, cases_order, lt-ltb, le-ltb}
use Rattle.std.proofs.lemmas.Cmp.{nat_list_cmp_total}
use Rattle.std.proofs.lemmas.Str.{IsUtf8-from_is_utf8}
use Rattle.std.specs.List.{list_all}
use Rattle.std.specs.Str.{is_utf8}
use Rattle.variant_meta.specs.Names.{name_at, place_of, is_before, rise_after, names_rise, AllBefore, NoneBefore}

-- the place is the first one with that name
pub place_is : (names : List (List ℕ)) (name : List ℕ) (k : ℕ) → ((j : ℕ) → j < k → bytes_eq (name_at names j) name ≡ false) → k < length names → bytes_eq (name_at names k) name ≡ true → place_of names name ≡ k
place_is [] name k before inside same = absurd (omega (arith, inside))
place_is (other ∷ names) name zero before inside same = rw same refl
place_is (other ∷ names) name (suc k) before inside same =
    rw (before 0 (omega arith)) (ap suc (place_is names name k (λ j h. before (suc j) (omega (arith, h))) (omega (arith, inside)) same))

pub place_none : (names : List (List ℕ)) (name : List ℕ) → ((j : ℕ) → j < length names → bytes_eq (name_at names j) name ≡ false) → place_of names name ≡ length names
place_none [] name other = refl
place_none (first ∷ names) name other =
    rw (other 0 (omega arith)) (ap suc (place_none names name (λ j h. other (suc j) (omega (arith, h)))))

-- The order.

less_is : (r : Ordering) → is_lt r ≡ true → r ≡ Less
less_is Less e = refl
less_is Equal e = cc
less_is Greater e = cc

pub before_apart : (a b : List ℕ) → is_before a b ≡ true → bytes_eq a b ≡ false
before_apart a b h = by (bytes_eq a b) refl
  where
    by : (e : Bool) → bytes_eq a b ≡ e → e ≡ false
    by false e = refl
    by true e =
        let same : a ≡ b = same_text a b (sym e) in
        let own : slice_cmp nat_cmp a a ≡ Less = subst (λ (x : List ℕ). slice_cmp nat_cmp a x ≡ Less) (sym same) (less_is (slice_cmp nat_cmp a b) h) in
        let turned : Less ≡ Greater = sym own ∙ nat_list_cmp_total.antisymm a a ∙ ap ordering_reverse own in
        cc

pub after_apart : (a b : List ℕ) → is_before a b ≡ true → bytes_eq b a ≡ false
after_apart a b h = by (bytes_eq b a) refl
  where
    by : (e : Bool) → bytes_eq b a ≡ e → e ≡ false
    by false e = refl
    by true e =
        let same : b ≡ a = same_text b a (sym e) in
        let own : slice_cmp nat_cmp a a ≡ Less = subst (λ (x : List ℕ). slice_cmp nat_cmp a x ≡ Less) same (less_is (slice_cmp nat_cmp a b) h) in
        let turned : Less ≡ Greater = sym own ∙ nat_list_cmp_total.antisymm a a ∙ ap ordering_reverse own in
        cc

pub before_trans : (a b c : List ℕ) → is_before a b ≡ true → is_before b c ≡ true → is_before a c ≡ true
before_trans a b c h k =
    ap is_lt (nat_list_cmp_total.trans a b c (less_is (slice_cmp nat_cmp a b) h) (less_is (slice_cmp nat_cmp b c) k))

-- not equal, and not before: after
pub neither_before : (a b : List ℕ) → is_before a b ≡ false → bytes_eq a b ≡ false → is_before b a ≡ true
neither_before a b h k = by (slice_cmp nat_cmp a b) refl
  where
    by : (r : Ordering) → slice_cmp nat_cmp a b ≡ r → is_before b a ≡ true
    by Less e = absurd (let less = ap is_lt e in cc)
    by Equal e = absurd (let same = texts_ties a b ∙ ap is_eq e in cc)
    by Greater e = ap is_lt (nat_list_cmp_total.antisymm b a ∙ ap ordering_reverse e)

-- both parts of a test that passes
both : (b c : Bool) → (b && c) ≡ true → (b ≡ true) × (c ≡ true)
both true c h = (refl, h)
both false c h = cc

-- the names after a name come after it
all_after : (name : List ℕ) (names : List (List ℕ)) (j : ℕ) → rise_after name names ≡ true → j < length names → is_before name (name_at names j) ≡ true
all_after name [] j rise inside = absurd (omega (arith, inside))
all_after name (other ∷ names) zero rise inside = (both (is_before name other) (rise_after other names) rise).0
all_after name (other ∷ names) (suc j) rise inside =
    let parts = both (is_before name other) (rise_after other names) rise in
    before_trans name other (name_at names j) parts.0 (all_after other names j parts.1 (omega (arith, inside)))

pub rises_between : (names : List (List ℕ)) (i j : ℕ) → names_rise names ≡ true → i < j → j < length names → is_before (name_at names i) (name_at names j) ≡ true
rises_between [] i j rise low high = absurd (omega (arith, high))
rises_between (name ∷ names) zero (suc j) rise low high = all_after name names j rise (omega (arith, high))
rises_between (name ∷ names) i zero rise low high = absurd (omega (arith, low))
rises_between (name ∷ []) (suc i) (suc j) rise low high = absurd (omega (arith, high))
rises_between (name ∷ other ∷ names) (suc i) (suc j) rise low high =
    rises_between (other ∷ names) i j (both (is_before name other) (rise_after other names) rise).1 (omega (arith, low)) (omega (arith, high))

-- Among names that rise, places are in the order of the names.

not_after : (a b : List ℕ) → is_before a b ≡ true → is_before b a ≡ false
not_after a b h = ap is_lt (nat_list_cmp_total.antisymm b a ∙ ap ordering_reverse (less_is (slice_cmp nat_cmp a b) h))

not_itself : (a : List ℕ) → is_before a a ≡ false
not_itself a = by (is_before a a) refl
  where
    by : (b : Bool) → is_before a a ≡ b → b ≡ false
    by false e = refl
    by true e = sym e ∙ not_after a a e

pub places_order : (names : List (List ℕ)) (i j : ℕ) → names_rise names ≡ true → i < length names → j < length names → is_before (name_at names i) (name_at names j) ≡ nat_lt i j
places_order names i j rise low high = by (cases_order i j)
  where
    by : (i ≡ j) ⊎ ((i < j) ⊎ (j < i)) → is_before (name_at names i) (name_at names j) ≡ nat_lt i j
    by (inl e) = rw e (not_itself (name_at names j) ∙ sym (le-ltb j j (omega arith)))
    by (inr (inl less)) = rises_between names i j rise less high ∙ sym (lt-ltb i j less)
    by (inr (inr more)) = not_after (name_at names j) (name_at names i) (rises_between names j i rise more low) ∙ sym (le-ltb i j (omega (arith, more)))

-- Where a binary search ends.

pub raise : (names : List (List ℕ)) (name : List ℕ) (k : ℕ) → names_rise names ≡ true → k < length names → is_before (name_at names k) name ≡ true → AllBefore names name (k + 1)
raise names name k rise inside here j less = by (cases_lt j k)
  where
    by : (j < k) ⊎ (k ≤ j) → is_before (name_at names j) name ≡ true
    by (inl low) = before_trans (name_at names j) (name_at names k) name (rises_between names j k rise low inside) here
    by (inr high) = let e : j ≡ k = omega (arith, high, less) in rw e here

pub lower : (names : List (List ℕ)) (name : List ℕ) (k : ℕ) → names_rise names ≡ true → is_before (name_at names k) name ≡ false → NoneBefore names name k
lower names name k rise here j low inside = by (is_before (name_at names j) name) refl
  where
    by : (b : Bool) → is_before (name_at names j) name ≡ b → b ≡ false
    by false e = refl
    by true e = absurd (at (cases_lt k j))
      where
        at : (k < j) ⊎ (j ≤ k) → ⊥
        at (inl up) = let more = before_trans (name_at names k) (name_at names j) name (rises_between names k j rise up inside) e in cc
        at (inr down) = let same : j ≡ k = omega (arith, low, down) in let more : is_before (name_at names k) name ≡ true = rw (sym same) e in cc

pub found : (names : List (List ℕ)) (name : List ℕ) (k : ℕ) → AllBefore names name k → k < length names → bytes_eq (name_at names k) name ≡ true → place_of names name ≡ k
found names name k before inside same = place_is names name k (λ j h. before_apart (name_at names j) name (before j h)) inside same

absent : (names : List (List ℕ)) (name : List ℕ) (k : ℕ) → names_rise names ≡ true → AllBefore names name k → NoneBefore names name k → (k < length names → bytes_eq (name_at names k) name ≡ false) → place_of names name ≡ length names
absent names name k rise before after other = place_none names name each
  where
    -- the name comes before the one at place k
    above : k < length names → is_before name (name_at names k) ≡ true
    above inside = neither_before (name_at names k) name (after k (omega arith) inside) (other inside)

    each : (j : ℕ) → j < length names → bytes_eq (name_at names j) name ≡ false
    each j inside = by (cases_order j k)
      where
        by : (j ≡ k) ⊎ ((j < k) ⊎ (k < j)) → bytes_eq (name_at names j) name ≡ false
        by (inl e) = rw e (other (rw (sym e) inside))
        by (inr (inl low)) = before_apart (name_at names j) name (before j low)
        by (inr (inr high)) =
            after_apart name (name_at names j) (before_trans name (name_at names k) (name_at names j) (above (omega (arith, high, inside))) (rises_between names k j rise high inside))

pub absent_last : (names : List (List ℕ)) (name : List ℕ) → AllBefore names name (length names) → place_of names name ≡ length names
absent_last names name before = place_none names name (λ j h. before_apart (name_at names j) name (before j h))

pub absent_here : (names : List (List ℕ)) (name : List ℕ) (k : ℕ) → names_rise names ≡ true → AllBefore names name k → NoneBefore names name k → bytes_eq (name_at names k) name ≡ false → place_of names name ≡ length names
absent_here names name k rise before after other = absent names name k rise before after (λ _. other)

-- Names one by one.

dropped : (names : List (List ℕ)) (i : ℕ) → i < length names → drop i names ≡ name_at names i ∷ drop (suc i) names
dropped [] i h = absurd (omega (arith, h))
dropped (name ∷ names) zero h = refl
dropped (name ∷ names) (suc i) h = dropped names i (omega (arith, h))

pub drop_name : (names : List (List ℕ)) (i : ℕ) → i < length names → drop i names ≡ name_at names i ∷ drop (i + 1) names
drop_name names i h = let e : i + 1 ≡ suc i = omega arith in rw e (dropped names i h)

pub drop_all : (names : List (List ℕ)) → drop (length names) names ≡ []
drop_all [] = refl
drop_all (name ∷ names) = drop_all names

pub place_most : (names : List (List ℕ)) (name : List ℕ) → place_of names name ≤ length names
place_most [] name = omega arith
place_most (other ∷ names) name = by (bytes_eq other name) (place_most names name)
  where
    by : (b : Bool) → place_of names name ≤ length names → cond b 0 (suc (place_of names name)) ≤ suc (length names)
    by true h = omega arith
    by false h = omega (arith, h)

-- each name of UTF-8 names is UTF-8
pub name_utf8 : (names : List (List ℕ)) (i : ℕ) → list_all is_utf8 names ≡ true → i < length names → IsUtf8 (name_at names i)
name_utf8 [] i all h = absurd (omega (arith, h))
name_utf8 (name ∷ names) zero all h = IsUtf8-from_is_utf8 name (both (is_utf8 name) (list_all is_utf8 names) all).0
name_utf8 (name ∷ names) (suc i) all h = name_utf8 names i (both (is_utf8 name) (list_all is_utf8 names) all).1 (omega (arith, h))

-- One turn of the walk over names that rise.

pub rise_stop : (names : List (List ℕ)) (before : List ℕ) (i : ℕ) → i < length names → is_before before (name_at names i) ≡ false → rise_after before (drop i names) ≡ false
rise_stop names before i h e = rw (drop_name names i h, e) refl

pub rise_on : (names : List (List ℕ)) (before : List ℕ) (i : ℕ) → i < length names → is_before before (name_at names i) ≡ true → rise_after before (drop i names) ≡ rise_after (name_at names i) (drop (i + 1) names)
rise_on names before i h e = rw (drop_name names i h, e) refl
