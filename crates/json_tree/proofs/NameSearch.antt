-- What a search by name finds in members whose names rise.
use Rattle.std.proofs.Common.{◌≡◌, ◌∙◌, inl, inr, ℕ, suc, zero, ◌+◌, ◌<◌, true, false, List, [], ◌∷◌, length, get_or, map, refl, sym, ap, subst, arith, Ordering, Less, Equal, Greater, Some, None}
use Rattle.std.specs.Prelude.{bytes_eq}
use Rattle.std.specs.Cmp.{IsTotalOrder}
use Rattle.std.specs.Cmp.Lexicographic.{texts_ties}
use Rattle.std.specs.List.{HoldsAt}
use Rattle.std.specs.List.Sorted.{IsSortedBy, IsNonDecreasingBy, IsPartitionPoint}
use Rattle.std.specs.Ordering.{is_lt, is_eq, ordering_reverse, ordering_index}
use Rattle.std.proofs.lemmas.Bool.{cases_lt}
use Rattle.std.proofs.lemmas.Cmp.{nat_list_cmp_total}
use Rattle.std.proofs.lemmas.List.{length-map}
use Rattle.std.proofs.lemmas.List.Sorted.{searchable_from_sorted}
use Rattle.std.proofs.lemmas.Map.Keys.{sorted_tail, Less-from_sorted}
use Rattle.json_tree.specs.Json.{fields_of}
use Rattle.json_tree.specs.Order.{member_of, NamesRise}
use Rattle.json_tree.specs.View.{view, seen}
use Rattle.json_tree.specs.declared.types.Tree.{Tree}
use Rattle.json_tree.specs.declared.types.Tree.TheVariants.{Null}
use Rattle.json_tree.proofs.MembersOrder.{order, turned, Rise}
use Rattle.json_tree.proofs.MembersMade.{names, name_at, member_names}

tied_name : (a b : List ℕ) → order a b ≡ Equal → bytes_eq a b ≡ true
tied_name a b e = texts_ties a b ∙ ap is_eq e

other_name : (a b : List ℕ) → (order a b ≡ Equal → ⊥) → bytes_eq a b ≡ false
other_name a b f = texts_ties a b ∙ other (order a b) f
  where
    other : (r : Ordering) → (r ≡ Equal → ⊥) → is_eq r ≡ false
    other Less f = refl
    other Equal f = absurd (f refl)
    other Greater f = refl

apart_name : (a b name : List ℕ) → order a b ≡ Less → order b name ≡ Equal → order a name ≡ Equal → ⊥
apart_name a b name less tie x =
    let o : IsTotalOrder order = nat_list_cmp_total in
    let e : Less ≡ Equal = sym less ∙ o.congr a name b x ∙ turned name b ∙ ap ordering_reverse tie in
    cc

pub found_member : (name : List ℕ) (ps : List (List ℕ × Tree)) (i : ℕ) (p : List ℕ × Tree) → Rise (names ps) → i < length ps → p ≡ get_or ps i p → order p.0 name ≡ Equal → member_of name (fields_of (map seen ps)) ≡ Some (view p.1)
found_member name [] i p h within e o = absurd (omega arith)
found_member name (q ∷ ps) zero p h within e o = rw (sym e, tied_name p.0 name o) refl
found_member name (q ∷ ps) (suc i) p h within e o =
    let inside : i < length ps = omega arith in
    let long : length (names ps) ≡ length ps = length-map ps (λ p. p.0) in
    let here : p.0 ≡ get_or (names ps) i p.0 = ap (λ (x : List ℕ × Tree). x.0) e ∙ sym (name_at ps i p.0 p.1 inside) in
    let less : order q.0 p.0 ≡ Less = ap (λ n. order q.0 n) here ∙ Less-from_sorted order (names (q ∷ ps)) 0 (suc i) p.0 h (omega arith) (omega arith) in
    rw (other_name q.0 name (apart_name q.0 p.0 name less o)) (found_member name ps i p (sorted_tail order q.0 (names ps) h) inside e o)

pub missed_member : (name : List ℕ) (ps : List (List ℕ × Tree)) → ((k : ℕ) → k < length ps → order (get_or ps k ([], Null)).0 name ≡ Equal → ⊥) → member_of name (fields_of (map seen ps)) ≡ None
missed_member name [] f = refl
missed_member name (q ∷ ps) f = rw (other_name q.0 name (f 0 (omega arith))) (missed_member name ps (λ k h. f (suc k) (omega arith)))

less_not_equal : (r : Ordering) → r ≡ Less → r ≡ Equal → ⊥
less_not_equal r a b = let e : Less ≡ Equal = sym a ∙ b in cc

greater_not_equal : (r : Ordering) → r ≡ Greater → r ≡ Equal → ⊥
greater_not_equal r a b = let e : Greater ≡ Equal = sym a ∙ b in cc

rising_sorted : (ps : List (List ℕ × Tree)) → Rise (names ps) → IsSortedBy (λ a b. is_lt (order a.0 b.0)) ps
rising_sorted ps h = λ k d low within.
    let long : length (names ps) ≡ length ps = length-map ps (λ p. p.0) in
    let this : k < length ps = omega arith in
    let less : order (get_or (names ps) k d.0) (get_or (names ps) (k + 1) d.0) ≡ Less = Less-from_sorted order (names ps) k (k + 1) d.0 h (omega arith) (omega arith) in
    rw (sym (name_at ps k d.0 d.1 this), sym (name_at ps (k + 1) d.0 d.1 within), turned (get_or (names ps) (k + 1) d.0) (get_or (names ps) k d.0), less) refl

-- what a binary search says that found nothing
pub not_among : (name : List ℕ) (ps : List (List ℕ × Tree)) (i : ℕ) → Rise (names ps) → (IsNonDecreasingBy (λ y. ordering_index (order y.0 name)) ps → IsPartitionPoint (λ y. order y.0 name ≡ Less) (λ y. order y.0 name ≡ Greater) ps i) → member_of name (fields_of (map seen ps)) ≡ None
not_among name ps i h told =
    let point : IsPartitionPoint (λ y. order y.0 name ≡ Less) (λ y. order y.0 name ≡ Greater) ps i = told (searchable_from_sorted nat_list_cmp_total (λ p. p.0) ps name (rising_sorted ps h)) in
    missed_member name ps (λ k within e. elim (cases_lt k i) [
      | inl front ↦ less_not_equal (order (get_or ps k ([], Null)).0 name) (point.0 k ([], Null) (omega arith) front) e
      | inr back ↦ greater_not_equal (order (get_or ps k ([], Null)).0 name) (point.1 k ([], Null) back within) e
    ])

pub rise_of : (ps : List (List ℕ × Tree)) → NamesRise (fields_of (map seen ps)) → Rise (names ps)
rise_of ps h = subst Rise (member_names ps) h

pub got : (name : List ℕ) (ps : List (List ℕ × Tree)) (i : ℕ) (p : List ℕ × Tree) → NamesRise (fields_of (map seen ps)) → i < length ps → p ≡ get_or ps i p → HoldsAt (λ y. order y.0 name ≡ Equal) ps i → Some (view (get_or ps i p).1) ≡ member_of name (fields_of (map seen ps))
got name ps i p h within e told =
    let tie : order p.0 name ≡ Equal = ap (λ (x : List ℕ × Tree). order x.0 name) e ∙ told p in
    ap (λ (x : List ℕ × Tree). Some (view x.1)) (sym e) ∙ sym (found_member name ps i p (rise_of ps h) within e tie)

pub got_none : (name : List ℕ) (ps : List (List ℕ × Tree)) (i : ℕ) → NamesRise (fields_of (map seen ps)) → (IsNonDecreasingBy (λ y. ordering_index (order y.0 name)) ps → IsPartitionPoint (λ y. order y.0 name ≡ Less) (λ y. order y.0 name ≡ Greater) ps i) → None ≡ member_of name (fields_of (map seen ps))
got_none name ps i h told = sym (not_among name ps i (rise_of ps h) told)
