-- Names that are sorted to see whether one stands twice.
use Rattle.std.proofs.Common.{◌≡◌, ◌∙◌, ℕ, ◌+◌, ◌<◌, Bool, true, false, List, [], ◌∷◌, length, get_or, map, refl, sym, ap, subst, arith, Ordering, Less, Equal, Greater}
use Rattle.std.specs.Prelude.{IsTrue, not}
use Rattle.std.specs.List.{IsAllAdjacentAnswer}
use Rattle.std.specs.List.Sorted.{IsPermutation, IsSortedBy}
use Rattle.std.specs.Ordering.{is_lt}
use Rattle.std.proofs.lemmas.Cmp.{nat_list_cmp_total}
use Rattle.std.proofs.lemmas.List.{get_or-map, length-map}
use Rattle.std.proofs.lemmas.List.Sorted.{IsPermutation-map}
use Rattle.std.proofs.lemmas.Map.Keys.{Less-from_sorted, sorted_from_all_adjacent}
use Rattle.vs_bytes.specs.Names.{repeats}
use Rattle.json_tree.proofs.MembersOrder.{order, Rise, no_repeats, rise_from_sorted}
use Rattle.file_columns.specs.declared.places.Child.{Child}
use Rattle.file_columns.specs.Columns.{names_of}
use Rattle.file_columns.specs.Views.{seen}

abbrev pub key : Child → List ℕ
key c = c.element.now.name

pub names_seen : (cs : List Child) → names_of (map seen cs) ≡ map key cs
names_seen [] = refl
names_seen (c ∷ cs) = ap (λ ns. key c ∷ ns) (names_seen cs)

key_at : (cs : List Child) (k : ℕ) (d : List ℕ) (c : Child) → k < length cs → get_or (map key cs) k d ≡ key (get_or cs k c)
key_at cs k d c h = get_or-map key cs k c d h

less_from_lt : (r : Ordering) → true ≡ is_lt r → r ≡ Less
less_from_lt Less e = refl
less_from_lt Equal e = absurd (cc)
less_from_lt Greater e = absurd (cc)

rise_told : (x : Child) (cs : List Child) → ((k : ℕ) (d : Child) → k + 1 < length cs → true ≡ is_lt (order (key (get_or cs k d)) (key (get_or cs (k + 1) d)))) → Rise (map key cs)
rise_told x cs h = sorted_from_all_adjacent nat_list_cmp_total (map key cs) [] (λ k within.
    let long : length (map key cs) ≡ length cs = length-map cs key in
    let next : k + 1 < length cs = omega arith in
    let this : k < length cs = omega arith in
    rw (key_at cs k [] x this, key_at cs (k + 1) [] x next) (less_from_lt (order (key (get_or cs k x)) (key (get_or cs (k + 1) x))) (h k x next)))

not_told : (x : Child) (cs : List Child) (k : ℕ) → k + 1 < length cs → ((d : Child) → false ≡ is_lt (order (key (get_or cs k d)) (key (get_or cs (k + 1) d)))) → Rise (map key cs) → ⊥
not_told x cs k within h rise =
    let long : length (map key cs) ≡ length cs = length-map cs key in
    let this : k < length cs = omega arith in
    let less : order (get_or (map key cs) k []) (get_or (map key cs) (k + 1) []) ≡ Less = Less-from_sorted order (map key cs) k (k + 1) [] rise (omega arith) (omega arith) in
    let told : order (key (get_or cs k x)) (key (get_or cs (k + 1) x)) ≡ Less = rw (sym (key_at cs k [] x this), sym (key_at cs (k + 1) [] x within)) less in
    let e : false ≡ true = h x ∙ ap is_lt told in
    cc

rise_nil : Rise (map key [])
rise_nil = sorted_from_all_adjacent nat_list_cmp_total [] [] (λ k within. absurd (omega arith))

keys_answer : (cs : List Child) (r : Bool) → IsAllAdjacentAnswer (λ x y b. b ≡ is_lt (order (key x) (key y))) cs r → (IsTrue r → Rise (map key cs)) × (Rise (map key cs) → IsTrue r)
keys_answer [] true h = (λ _. rise_nil, λ _. refl)
keys_answer (c ∷ cs) true h = (λ _. rise_told c (c ∷ cs) h, λ _. refl)
keys_answer [] false h = absurd (omega (arith, h.1))
keys_answer (c ∷ cs) false h = (λ e. absurd (cc), λ rise. absurd (not_told c (c ∷ cs) h.0 h.1 h.2 rise))

-- the test that neighbours rise
pub rise_answer : (cs : List Child) (r : Bool) → IsAllAdjacentAnswer (λ x y b. b ≡ is_lt (order (key x) (key y))) cs r → (IsTrue r → Rise (names_of (map seen cs))) × (Rise (names_of (map seen cs)) → IsTrue r)
rise_answer cs r h = let both = keys_answer cs r h in subst (λ (ns : List (List ℕ)). (IsTrue r → Rise ns) × (Rise ns → IsTrue r)) (sym (names_seen cs)) both

sorted_names : (cs : List Child) → IsSortedBy (λ a b. is_lt (order (key a) (key b))) cs → IsSortedBy (λ a b. is_lt (order a b)) (map key cs)
sorted_names [] h = λ k d low within. absurd (omega arith)
sorted_names (c ∷ cs) h = λ k d low within.
    let long : length (map key (c ∷ cs)) ≡ length (c ∷ cs) = length-map (c ∷ cs) key in
    let next : k + 1 < length (c ∷ cs) = omega arith in
    let this : k < length (c ∷ cs) = omega arith in
    rw (key_at (c ∷ cs) k d c this, key_at (c ∷ cs) (k + 1) d c next) (h k c low next)

told_true : (b : Bool) → (b ≡ false → ⊥) → b ≡ true
told_true true f = refl
told_true false f = absurd (f refl)

told_false : (b : Bool) → (b ≡ true → ⊥) → b ≡ false
told_false false f = refl
told_false true f = absurd (f refl)

-- elements that are sorted by their names repeat one exactly where these do not rise
pub repeated_is : (cs sorted : List Child) (r : Bool) → IsPermutation cs sorted → IsSortedBy (λ a b. is_lt (order (key a) (key b))) sorted → (IsTrue r → Rise (names_of (map seen sorted))) × (Rise (names_of (map seen sorted)) → IsTrue r) → not r ≡ repeats (names_of (map seen cs))
repeated_is cs sorted true p s h =
    let rise : Rise (map key sorted) = subst Rise (names_seen sorted) (h.0 refl) in
    sym (ap repeats (names_seen cs) ∙ no_repeats (map key cs) (map key sorted) (IsPermutation-map key cs sorted p) rise)
repeated_is cs sorted false p s h =
    sym (ap repeats (names_seen cs) ∙ told_true (repeats (map key cs)) (λ e.
    let rise : Rise (map key sorted) = rise_from_sorted (map key cs) (map key sorted) (IsPermutation-map key cs sorted p) (sorted_names sorted s) e in
    let is : IsTrue false = h.1 (subst Rise (sym (names_seen sorted)) rise) in
    let e : false ≡ true = is in cc))
