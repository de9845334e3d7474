-- What is kept of members that fields take.
use Rattle.std.proofs.Common.{◌≡◌, ◌∙◌, ℕ, suc, zero, ◌+◌, ◌<◌, ◌≤◌, inl, inr, subst, Bool, true, false, not, ◌&&◌, ◌||◌, List, [], ◌∷◌, length, set, get_or, map, refl, sym, ap, arith, Ordering, Less, Equal, Greater, Some, None, cond}
use Rattle.std.specs.Prelude.{bytes_eq}
use Rattle.std.specs.Cmp.{IsTotalOrder}
use Rattle.std.specs.Cmp.Lexicographic.{texts_ties}
use Rattle.std.specs.List.{HoldsAt}
use Rattle.std.specs.Ordering.{is_eq, ordering_reverse}
use Rattle.std.proofs.lemmas.Bool.{cases_lt}
use Rattle.std.proofs.lemmas.Cmp.{nat_list_cmp_total}
use Rattle.std.proofs.lemmas.List.{length-map}
use Rattle.std.proofs.lemmas.Map.Keys.{sorted_tail, Less-from_sorted}
use Rattle.json_tree.specs.Json.{Fields, no_fields, fields_of, names_of}
use Rattle.json_tree.specs.Json as json
use Rattle.json_tree.specs.Order.{member_of, NamesRise}
use Rattle.json_tree.specs.View.{view, seen}
use Rattle.json_tree.specs.declared.types.Tree.{Tree}
use Rattle.json_tree.specs.declared.types.Tree.TheVariants.{Null}
use Rattle.json_tree.proofs.MembersOrder.{order, turned, Rise}
use Rattle.json_tree.proofs.MembersMade.{names, name_at}
use Rattle.json_tree.proofs.NameSearch.{got, missed_member}
use Rattle.shred_schema.specs.Groups.{Group, Groups, no_groups, field}
use Rattle.shredder.specs.Shredded.{is_named, unnamed}
use Rattle.shredder.specs.Taken.{without, without_all, IsAt, IsApart, IsPast, IsNowhere}

-- ---- names

pub tied : (a b : List ℕ) → bytes_eq a b ≡ true → order a b ≡ Equal
tied a b e = by (order a b) (sym (texts_ties a b) ∙ e)
  where
    by : (r : Ordering) → is_eq r ≡ true → r ≡ Equal
    by Less h = absurd (let wrong : false ≡ true = h in cc)
    by Equal h = refl
    by Greater h = absurd (let wrong : false ≡ true = h in cc)

pub is_tied : (a b : List ℕ) → order a b ≡ Equal → bytes_eq a b ≡ true
is_tied a b e = texts_ties a b ∙ ap is_eq e

pub untied : (a b : List ℕ) → (order a b ≡ Equal → ⊥) → bytes_eq a b ≡ false
untied a b f = texts_ties a b ∙ by (order a b) f
  where
    by : (r : Ordering) → (r ≡ Equal → ⊥) → is_eq r ≡ false
    by Less g = refl
    by Equal g = absurd (g refl)
    by Greater g = refl

eq_turned : (a b : List ℕ) → bytes_eq a b ≡ bytes_eq b a
eq_turned a b = texts_ties a b ∙ ap is_eq (turned a b) ∙ by (order b a) ∙ sym (texts_ties b a)
  where
    by : (r : Ordering) → is_eq (ordering_reverse r) ≡ is_eq r
    by Less = refl
    by Equal = refl
    by Greater = refl

-- names that rise aren't both equal to a third
apart : (a b name : List ℕ) → order a b ≡ Less → bytes_eq a name ≡ true → order b name ≡ Equal → ⊥
apart a b name less same tie =
    let o : IsTotalOrder order = nat_list_cmp_total in
    let e : Less ≡ Equal = sym less ∙ o.congr a name b (tied a name same) ∙ turned name b ∙ ap ordering_reverse tie in
    cc

-- the first of names that rise comes before each other
first_less : (q : List ℕ × Tree) (ps : List (List ℕ × Tree)) (k : ℕ) (p : List ℕ × Tree) → Rise (names (q ∷ ps)) → k < length ps → order q.0 (get_or ps k p).0 ≡ Less
first_less q ps k p h within =
    let long : length (names ps) ≡ length ps = length-map ps (λ p. p.0) in
    ap (λ n. order q.0 n) (sym (name_at ps k p.0 p.1 within)) ∙ Less-from_sorted order (names (q ∷ ps)) 0 (suc k) p.0 h (omega arith) (omega arith)

-- ---- where a member is

nowhere_else : (name : List ℕ) (q : List ℕ × Tree) (ps : List (List ℕ × Tree)) → Rise (names (q ∷ ps)) → bytes_eq q.0 name ≡ true → IsNowhere name ps
nowhere_else name q ps h same = record {
  apart = λ k p within. untied (get_or ps k p).0 name (apart q.0 (get_or ps k p).0 name (first_less q ps k p h within) same);
}

later : (name : List ℕ) (q : List ℕ × Tree) (ps : List (List ℕ × Tree)) (i : ℕ) → IsAt name (q ∷ ps) (suc i) → IsAt name ps i
later name q ps i at = record { inside = omega (arith, at.inside); same = λ p. at.same p }

others_nowhere : (name : List ℕ) (q : List ℕ × Tree) (ps : List (List ℕ × Tree)) → IsNowhere name (q ∷ ps) → IsNowhere name ps
others_nowhere name q ps none = record { apart = λ k p within. none.apart (suc k) p (omega (arith, within)) }

pub value_at : (name : List ℕ) (ps : List (List ℕ × Tree)) (i : ℕ) (p : List ℕ × Tree) → NamesRise (fields_of (map seen ps)) → IsAt name ps i → p ≡ get_or ps i p → Some (view (get_or ps i p).1) ≡ member_of name (fields_of (map seen ps))
value_at name ps i p rise at is = got name ps i p rise at.inside is (λ d. tied (get_or ps i d).0 name (at.same d))

names_many : (ps : List (List ℕ × Tree)) → length (names_of (fields_of (map seen ps))) ≡ length ps
names_many [] = refl
names_many (p ∷ ps) = ap suc (names_many ps)

pub place_inside : (name : List ℕ) (kept : List Bool) (members : Fields) (ps : List (List ℕ × Tree)) (i : ℕ) → length kept ≡ length (names_of members) → members ≡ fields_of (map seen ps) → IsAt name ps i → i < length kept
place_inside name kept members ps i each are at =
    let many : length (names_of members) ≡ length ps = ap (λ (ms : Fields). length (names_of ms)) are ∙ names_many ps in
    omega (arith, each, many, at.inside)

pub value_nowhere : (name : List ℕ) (ps : List (List ℕ × Tree)) → IsNowhere name ps → None ≡ member_of name (fields_of (map seen ps))
value_nowhere name ps none = sym (missed_member name ps (λ k within tie.
    let e : true ≡ false = sym (is_tied (get_or ps k ([], Null)).0 name tie) ∙ none.apart k ([], Null) within in
    cc))

pub found_at : (name : List ℕ) (ps : List (List ℕ × Tree)) (i : ℕ) → i < length ps → HoldsAt (λ p. order p.0 name ≡ Equal) ps i → IsAt name ps i
found_at name ps i within told = record { inside = within; same = λ p. is_tied (get_or ps i p).0 name (told p) }

nowhere_in : (name : List ℕ) (q : List ℕ × Tree) (ps : List (List ℕ × Tree)) → bytes_eq q.0 name ≡ false → IsNowhere name ps → (k : ℕ) (p : List ℕ × Tree) → k < length (q ∷ ps) → bytes_eq (get_or (q ∷ ps) k p).0 name ≡ false
nowhere_in name q ps h none zero p within = h
nowhere_in name q ps h none (suc k) p within = none.apart k p (omega (arith, within))

pub nowhere_from : (name : List ℕ) (ps : List (List ℕ × Tree)) → None ≡ member_of name (fields_of (map seen ps)) → IsNowhere name ps
nowhere_from name [] e = record { apart = λ k p within. absurd (omega (arith, within)) }
nowhere_from name (q ∷ ps) e = by (bytes_eq q.0 name) refl e (nowhere_from name ps)
  where
    by : (b : Bool) → bytes_eq q.0 name ≡ b → None ≡ cond b (Some (view q.1)) (member_of name (fields_of (map seen ps))) → (None ≡ member_of name (fields_of (map seen ps)) → IsNowhere name ps) → IsNowhere name (q ∷ ps)
    by true h f rest = absurd cc
    by false h f rest = record { apart = nowhere_in name q ps h (rest f) }

pub apart_past : (name : List ℕ) (ps : List (List ℕ × Tree)) (place : ℕ) → length ps ≤ place → IsApart name ps place
apart_past name ps place beyond = record { other = λ p within. absurd (omega (arith, beyond, within)) }

pub past_none : (name : List ℕ) (ps : List (List ℕ × Tree)) → IsPast name ps 0
past_none name ps = record { each = λ k within. absurd (omega (arith, within)) }

pub past_more : (name : List ℕ) (ps : List (List ℕ × Tree)) (place : ℕ) → IsPast name ps place → IsApart name ps place → IsPast name ps (place + 1)
past_more name ps place past here = record {
  each = λ k within. elim (cases_lt k place) [
    | inl before ↦ past.each k before
    | inr behind ↦ (let is : place ≡ k = omega (arith, within, behind) in subst (IsApart name ps) is here)
  ];
}

pub past_all : (name : List ℕ) (ps : List (List ℕ × Tree)) (place : ℕ) → IsPast name ps place → length ps ≤ place → IsNowhere name ps
past_all name ps place past beyond = record { apart = λ k p within. (past.each k (omega (arith, beyond, within))).other p within }

-- ---- what is kept

pub kept_as : (name : List ℕ) (kept : List Bool) (ps : List (List ℕ × Tree)) → IsNowhere name ps → kept ≡ without name kept (fields_of (map seen ps))
kept_as name [] ps none = refl
kept_as name (keep ∷ kept) [] none = refl
kept_as name (keep ∷ kept) (q ∷ ps) none =
    rw (eq_turned name q.0, none.apart 0 q (omega arith)) (ap (λ rest. keep ∷ rest) (kept_as name kept ps (others_nowhere name q ps none)))

pub kept_but : (name : List ℕ) (kept : List Bool) (ps : List (List ℕ × Tree)) (i : ℕ) → Rise (names ps) → IsAt name ps i → set kept i false ≡ without name kept (fields_of (map seen ps))
kept_but name [] ps i rise at = refl
kept_but name (keep ∷ kept) [] i rise at = absurd (omega (arith, at.inside))
kept_but name (keep ∷ kept) (q ∷ ps) zero rise at =
    rw (eq_turned name q.0, at.same q) (ap (λ rest. false ∷ rest) (kept_as name kept ps (nowhere_else name q ps rise (at.same q))))
kept_but name (keep ∷ kept) (q ∷ ps) (suc i) rise at =
    let inside : i < length ps = omega (arith, at.inside) in
    let other : bytes_eq q.0 name ≡ false = untied q.0 name (λ tie.
    let e : Less ≡ Equal = sym (first_less q ps i q rise inside) ∙ (nat_list_cmp_total).congr q.0 name (get_or ps i q).0 tie ∙ turned name (get_or ps i q).0 ∙ ap ordering_reverse (tied (get_or ps i q).0 name (at.same q)) in
    cc) in
    rw (eq_turned name q.0, other) (ap (λ rest. keep ∷ rest) (kept_but name kept ps i (sorted_tail order q.0 (names ps) rise) (later name q ps i at)))

without_len : (name : List ℕ) (kept : List Bool) (members : Fields) → length (without name kept members) ≡ length kept
without_len name [] members = refl
without_len name (keep ∷ kept) no_fields = refl
without_len name (keep ∷ kept) (json.field other j members) = ap suc (without_len name kept members)

pub taken_len : (name : List ℕ) (kept more : List Bool) (members : Fields) (n : ℕ) → more ≡ without name kept members → length kept ≡ n → length more ≡ n
taken_len name kept more members n is each = ap length is ∙ without_len name kept members ∙ each

-- ---- after all fields

step : (a b keep : Bool) → (not a && (not b && keep)) ≡ (not (b || a) && keep)
step true true keep = refl
step true false keep = refl
step false true keep = refl
step false false keep = refl

first_of_all : (gs : Groups) (keep : Bool) (kept : List Bool) (name : List ℕ) (j : json.Json) (members : Fields) → without_all gs (keep ∷ kept) (json.field name j members) ≡ (not (is_named gs name) && keep) ∷ without_all gs kept members
first_of_all no_groups keep kept name j members = refl
first_of_all (field other n gs) keep kept name j members =
    first_of_all gs (not (bytes_eq other name) && keep) (without other kept members) name j members
    ∙ ap (λ (b : Bool). b ∷ without_all gs (without other kept members) members) (step (is_named gs name) (bytes_eq other name) keep)

none_of_all : (gs : Groups) → without_all gs [] no_fields ≡ []
none_of_all no_groups = refl
none_of_all (field name n gs) = none_of_all gs

kept_true : (b : Bool) → (b && true) ≡ b
kept_true true = refl
kept_true false = refl

all_taken : (gs : Groups) (members : Fields) → without_all gs (unnamed no_groups members) members ≡ unnamed gs members
all_taken gs no_fields = none_of_all gs
all_taken gs (json.field name j members) =
    first_of_all gs true (unnamed no_groups members) name j members
    ∙ ap (λ (b : Bool). b ∷ without_all gs (unnamed no_groups members) members) (kept_true (not (is_named gs name)))
    ∙ ap (λ (rest : List Bool). not (is_named gs name) ∷ rest) (all_taken gs members)

pub taken_turn : (gs others : Groups) (name : List ℕ) (g : Group) (kept more all : List Bool) (members : Fields) → gs ≡ field name g others → more ≡ without name kept members → without_all gs kept members ≡ all → without_all others more members ≡ all
taken_turn gs others name g kept more all members at is h =
    ap (λ (ks : List Bool). without_all others ks members) is ∙ sym (ap (λ (fs : Groups). without_all fs kept members) at) ∙ h

pub taken_are : (gs : Groups) (members : Fields) (kept more : List Bool) → kept ≡ unnamed no_groups members → more ≡ without_all gs kept members → more ≡ unnamed gs members
taken_are gs members kept more start is = is ∙ ap (λ (ks : List Bool). without_all gs ks members) start ∙ all_taken gs members

pub as_many : (gs : Groups) (members : Fields) → length (unnamed gs members) ≡ length (names_of members)
as_many gs no_fields = refl
as_many gs (json.field name j members) = ap suc (as_many gs members)
