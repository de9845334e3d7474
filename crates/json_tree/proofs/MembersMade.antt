-- Pairs of a name and a tree: when their names rise, and what members they make.
use Rattle.std.proofs.Common.{◌≡◌, ◌∙◌, ℕ, ◌+◌, ◌<◌, Bool, true, false, List, [], ◌∷◌, length, get_or, map, refl, sym, ap, subst, arith, Ordering, Less, Equal, Greater}
use Rattle.std.specs.Prelude.{IsTrue}
use Rattle.std.specs.Cmp.Lexicographic.{slice_cmp}
use Rattle.std.specs.List.{IsAllAdjacentAnswer}
use Rattle.std.specs.List.Sorted.{IsPermutation, IsSortedBy}
use Rattle.std.specs.Ordering.{nat_cmp, is_lt}
use Rattle.std.proofs.lemmas.Cmp.{nat_list_cmp_total}
use Rattle.std.proofs.lemmas.List.{get_or-map, length-map}
use Rattle.std.proofs.lemmas.List.Sorted.{IsPermutation-map}
use Rattle.std.proofs.lemmas.Map.Keys.{Less-from_sorted, sorted_from_all_adjacent}
use Rattle.vs_bytes.specs.Names.{repeats}
use Rattle.json_tree.specs.Json.{Json, fields_of, names_of}
use Rattle.json_tree.specs.Order.{sorted, NamesRise}
use Rattle.json_tree.specs.View.{seen}
use Rattle.json_tree.specs.declared.types.Tree.{Tree}
use Rattle.json_tree.specs.declared.types.Tree.TheVariants.{Null}
use Rattle.json_tree.proofs.MembersOrder.{order, Rise, names_in, no_repeats, rise_from_sorted, sorted_is}

abbrev pub names : List (List ℕ × Tree) → List (List ℕ)
names ps = map (λ p. p.0) ps

pub field_names : (ms : List (List ℕ × Json)) → names_of (fields_of ms) ≡ names_in ms
field_names [] = refl
field_names (m ∷ ms) = ap (λ ns. m.0 ∷ ns) (field_names ms)

pub seen_names : (ps : List (List ℕ × Tree)) → names_in (map seen ps) ≡ names ps
seen_names [] = refl
seen_names (p ∷ ps) = ap (λ ns. p.0 ∷ ns) (seen_names ps)

pub member_names : (ps : List (List ℕ × Tree)) → names_of (fields_of (map seen ps)) ≡ names ps
member_names ps = field_names (map seen ps) ∙ seen_names ps

pub name_at : (ps : List (List ℕ × Tree)) (k : ℕ) (d : List ℕ) (t : Tree) → k < length ps → get_or (names ps) k d ≡ (get_or ps k (d, t)).0
name_at ps k d t h = get_or-map (λ (p : List ℕ × Tree). p.0) ps k (d, t) d h

-- ---- the test that neighbours rise

less_from_lt : (r : Ordering) → true ≡ is_lt r → r ≡ Less
less_from_lt Less e = refl
less_from_lt Equal e = absurd (cc)
less_from_lt Greater e = absurd (cc)

rise_told : (ps : List (List ℕ × Tree)) → ((k : ℕ) (d : List ℕ × Tree) → k + 1 < length ps → true ≡ is_lt (order (get_or ps k d).0 (get_or ps (k + 1) d).0)) → Rise (names ps)
rise_told ps h = sorted_from_all_adjacent nat_list_cmp_total (names ps) [] (λ k within.
    let long : length (names ps) ≡ length ps = length-map ps (λ p. p.0) in
    let next : k + 1 < length ps = omega arith in
    let this : k < length ps = omega arith in
    rw (name_at ps k [] Null this, name_at ps (k + 1) [] Null next) (less_from_lt (order (get_or ps k ([], Null)).0 (get_or ps (k + 1) ([], Null)).0) (h k ([], Null) next)))

not_told : (ps : List (List ℕ × Tree)) (k : ℕ) → k + 1 < length ps → ((d : List ℕ × Tree) → false ≡ is_lt (order (get_or ps k d).0 (get_or ps (k + 1) d).0)) → Rise (names ps) → ⊥
not_told ps k within h rise =
    let long : length (names ps) ≡ length ps = length-map ps (λ p. p.0) in
    let this : k < length ps = omega arith in
    let less : order (get_or (names ps) k []) (get_or (names ps) (k + 1) []) ≡ Less = Less-from_sorted order (names ps) k (k + 1) [] rise (omega arith) (omega arith) in
    let told : order (get_or ps k ([], Null)).0 (get_or ps (k + 1) ([], Null)).0 ≡ Less = rw (sym (name_at ps k [] Null this), sym (name_at ps (k + 1) [] Null within)) less in
    let e : false ≡ true = h ([], Null) ∙ ap is_lt told in
    cc

pub rise_answer : (ps : List (List ℕ × Tree)) (r : Bool) → IsAllAdjacentAnswer (λ x y b. b ≡ is_lt (order x.0 y.0)) ps r → (IsTrue r → Rise (names ps)) × (Rise (names ps) → IsTrue r)
rise_answer ps true h = (λ _. rise_told ps h, λ _. refl)
rise_answer ps false h = (λ e. absurd (cc), λ rise. absurd (not_told ps h.0 h.1 h.2 rise))

-- ---- members made of pairs

sorted_names : (ps : List (List ℕ × Tree)) → IsSortedBy (λ a b. is_lt (order a.0 b.0)) ps → IsSortedBy (λ a b. is_lt (slice_cmp nat_cmp a b)) (names ps)
sorted_names ps h = λ k d low within.
    let long : length (names ps) ≡ length ps = length-map ps (λ p. p.0) in
    let next : k + 1 < length ps = omega arith in
    let this : k < length ps = omega arith in
    rw (name_at ps k d Null this, name_at ps (k + 1) d Null next) (h k (d, Null) low next)

told_true : (b : Bool) → (b ≡ false → ⊥) → b ≡ true
told_true true f = refl
told_true false f = absurd (f refl)

not_true : (b : Bool) → b ≡ false → b ≡ true → ⊥
not_true b e f = let h : false ≡ true = sym e ∙ f in cc

-- sorted pairs whose names do not rise repeat one
pub repeated_from : (ps qs : List (List ℕ × Tree)) → IsPermutation ps qs → IsSortedBy (λ a b. is_lt (order a.0 b.0)) qs → (Rise (names qs) → ⊥) → repeats (names ps) ≡ true
repeated_from ps qs p s f = told_true (repeats (names ps)) (λ e. f (rise_from_sorted (names ps) (names qs) (IsPermutation-map (λ p. p.0) ps qs p) (sorted_names qs s) e))

-- pairs whose names rise, made of pairs in any order
pub not_repeated : (ps qs : List (List ℕ × Tree)) → IsPermutation ps qs → Rise (names qs) → repeats (names ps) ≡ true → ⊥
not_repeated ps qs p h e = not_true (repeats (names ps)) (no_repeats (names ps) (names qs) (IsPermutation-map (λ p. p.0) ps qs p) h) e

pub members_made : (ps qs : List (List ℕ × Tree)) → IsPermutation ps qs → Rise (names qs) → fields_of (map seen qs) ≡ fields_of (sorted (map seen ps))
members_made ps qs p h =
    let same : repeats (names_in (map seen ps)) ≡ false = ap repeats (seen_names ps) ∙ no_repeats (names ps) (names qs) (IsPermutation-map (λ p. p.0) ps qs p) h in
    ap fields_of (sorted_is (map seen ps) (map seen qs) (IsPermutation-map seen ps qs p) same (subst Rise (sym (seen_names qs)) h))

pub members_rise : (qs : List (List ℕ × Tree)) → Rise (names qs) → NamesRise (fields_of (map seen qs))
members_rise qs h = subst Rise (sym (member_names qs)) h
