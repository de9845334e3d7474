-- The members that are left over and those that the fields give have different names.
use Rattle.std.proofs.Common.{◌≡◌, ℕ, ◌+◌, Bool, true, false, ◌||◌, cond, List, [], ◌∷◌, ◌++◌, map, Option, Some, None, Result, Ok, Err, refl, sym, ◌∙◌, ap, subst}
use Rattle.std.specs.Prelude.{is_some}
use Rattle.std.specs.List.{list_any}
use Rattle.std.specs.Str.{bytes_eq}
use Rattle.std.proofs.lemmas.List.{map-append}
use Rattle.std.proofs.lemmas.List.Folds.{list_any-append}
use Rattle.std.proofs.lemmas.Slice.Eq.{bytes_eq-Decides}
use Rattle.json_tree.specs.Json.{Json, null, boolean, number, text, array, object, Fields, no_fields, fields_of}
use Rattle.json_tree.specs.Json as json
use Rattle.json_tree.specs.Order.{member_of}
use Rattle.vs_bytes.specs.Names.{repeats}
use Rattle.vs_bytes.specs.Outcome.{◌>>=◌}
use Rattle.vs_bytes.specs.declared.rule.Rule.{Rule}
use Rattle.vs_bytes.specs.declared.rule.Rule.TheVariants.{FieldInBoth}
use Rattle.shred_schema.specs.Groups.{Groups, no_groups, field, field_names, width}
use Rattle.shred_schema.specs.Recs.{Recs, no_recs, recs}
use Rattle.unshredder.specs.Merging.{pairs_of, is_in_both, left_over, member}
use Rattle.json_tree.specs.View.{seen as pair_seen}
use Rattle.json_tree.specs.declared.types.Tree.{Tree}
use Rattle.unshredder.specs.Seen.{seen, fields_seen, ahead}

abbrev pub names_in : List (List ℕ × Json) → List (List ℕ)
names_in ms = map (λ m. m.0) ms

abbrev pub has : List ℕ → List (List ℕ) → Bool
has name names = list_any (λ other. bytes_eq other name) names

or_parts : (b c : Bool) → b || c ≡ false → (b ≡ false) × (c ≡ false)
or_parts false c h = (refl, h)
or_parts true c h = absurd (let e : true ≡ false = h in cc)

neither : (b c : Bool) → b ≡ false → c ≡ false → b || c ≡ false
neither b c e f = rw (e, f) refl

-- the members that fields give: each field one or none, in their order
abbrev pub AreMembers : Groups → List (List ℕ × Json) → Type 0
AreMembers no_groups ms = ms ≡ []
AreMembers (field name n gs) ms = (o : Option Json) × ((more : List (List ℕ × Json)) × ((ms ≡ member name o ++ more) × AreMembers gs more))

none_are : (gs : Groups) → AreMembers gs []
none_are no_groups = refl
none_are (field name n gs) = (None, ([], (refl, none_are gs)))

pub seen_are : (mask : ℕ → Bool) (names : List (List ℕ)) (gs : Groups) (k above : ℕ) (xs : Recs) (ms : List (List ℕ × Json)) → fields_seen mask names gs k above xs ≡ Ok ms → AreMembers gs ms
seen_are mask names no_groups k above xs ms h = let e : [] ≡ ms = by xs h in sym e
  where
    by : (xs : Recs) → fields_seen mask names no_groups k above xs ≡ Ok ms → [] ≡ ms
    by no_recs h = cc
    by (recs x xs) h = cc
seen_are mask names (field name n gs) k above no_recs ms h = let e : [] ≡ ms = cc in subst (AreMembers (field name n gs)) e (none_are (field name n gs))
seen_are mask names (field name n gs) k above (recs x xs) ms h = first (seen mask names n k above x) (fields_seen mask names gs (k + width n) above xs) (λ more e. seen_are mask names gs (k + width n) above xs more e) h
  where
    first : (r : Result (Option Json) Rule) (s : Result (List (List ℕ × Json)) Rule) → ((more : List (List ℕ × Json)) → s ≡ Ok more → AreMembers gs more) → (r >>= λ o. s >>= λ members. Ok (member name o ++ members)) ≡ Ok ms → AreMembers (field name n gs) ms
    first (Ok o) (Ok more) f h = let is : member name o ++ more ≡ ms = cc in (o, (more, (sym is, f more refl)))
    first (Ok o) (Err rule) f h = absurd cc
    first (Err rule) s f h = absurd cc

-- a name that no field has, no member has
members_lack : (x : List ℕ) (gs : Groups) (ms : List (List ℕ × Json)) → has x (field_names gs) ≡ false → AreMembers gs ms → has x (names_in ms) ≡ false
members_lack x no_groups ms h a = rw a refl
members_lack x (field name n gs) ms h a = let parts = or_parts (bytes_eq name x) (has x (field_names gs)) h in
    subst (λ (all : List (List ℕ × Json)). has x (names_in all) ≡ false) (sym a.1.1.0) (by a.0 parts.0 (members_lack x gs a.1.0 parts.1 a.1.1.1))
  where
    by : (o : Option Json) → bytes_eq name x ≡ false → has x (names_in a.1.0) ≡ false → has x (names_in (member name o ++ a.1.0)) ≡ false
    by None e f = f
    by (Some j) e f = neither (bytes_eq name x) (has x (names_in a.1.0)) e f

members_differ : (gs : Groups) (ms : List (List ℕ × Json)) → repeats (field_names gs) ≡ false → AreMembers gs ms → repeats (names_in ms) ≡ false
members_differ no_groups ms h a = rw a refl
members_differ (field name n gs) ms h a = let parts = or_parts (has name (field_names gs)) (repeats (field_names gs)) h in
    subst (λ (all : List (List ℕ × Json)). repeats (names_in all) ≡ false) (sym a.1.1.0) (by a.0 (members_lack name gs a.1.0 parts.0 a.1.1.1) (members_differ gs a.1.0 parts.1 a.1.1.1))
  where
    by : (o : Option Json) → has name (names_in a.1.0) ≡ false → repeats (names_in a.1.0) ≡ false → repeats (names_in (member name o ++ a.1.0)) ≡ false
    by None e f = f
    by (Some j) e f = neither (has name (names_in a.1.0)) (repeats (names_in a.1.0)) e f

bytes_eq_turned : (a b : List ℕ) → bytes_eq a b ≡ false → bytes_eq b a ≡ false
bytes_eq_turned a b e = by (bytes_eq b a) refl
  where
    by : (c : Bool) → bytes_eq b a ≡ c → c ≡ false
    by false f = refl
    by true f = let same : b ≡ a = (bytes_eq-Decides b a).0 f in let yes : bytes_eq a b ≡ true = (bytes_eq-Decides a b).1 (sym same) in let wrong : true ≡ false = sym yes ∙ e in absurd cc

-- no field has the first member's name, and none has that of a later one
pub first_apart : (gs : Groups) (name : List ℕ) (j : Json) (fs : Fields) → is_in_both gs (json.field name j fs) ≡ false → (has name (field_names gs) ≡ false) × (is_in_both gs fs ≡ false)
first_apart no_groups name j fs h = (refl, refl)
first_apart (field other n gs) name j fs h =
    let parts = or_parts (is_some (cond (bytes_eq name other) (Some j) (member_of other fs))) (is_in_both gs (json.field name j fs)) h in
    let rest = first_apart gs name j fs parts.1 in
    by (bytes_eq name other) refl parts.0 rest.0 rest.1
  where
    by : (b : Bool) → bytes_eq name other ≡ b → is_some (cond b (Some j) (member_of other fs)) ≡ false → has name (field_names gs) ≡ false → is_in_both gs fs ≡ false
        → (has name (other ∷ field_names gs) ≡ false) × (is_in_both (field other n gs) fs ≡ false)
    by true e f g i = absurd (let wrong : true ≡ false = f in cc)
    by false e f g i = (neither (bytes_eq other name) (has name (field_names gs)) (bytes_eq_turned name other e) g, neither (is_some (member_of other fs)) (is_in_both gs fs) f i)

pub never_repeats : (gs : Groups) (left ms : List (List ℕ × Json)) → repeats (field_names gs) ≡ false → is_in_both gs (fields_of left) ≡ false → repeats (names_in left) ≡ false → AreMembers gs ms → repeats (names_in (left ++ ms)) ≡ false
never_repeats gs [] ms d i r a = members_differ gs ms d a
never_repeats gs (m ∷ left) ms d i r a =
    let apart = first_apart gs m.0 m.1 (fields_of left) i in
    let parts = or_parts (has m.0 (names_in left)) (repeats (names_in left)) r in
    neither (has m.0 (names_in (left ++ ms))) (repeats (names_in (left ++ ms)))
    (subst (λ (names : List (List ℕ)). has m.0 names ≡ false) (sym (map-append (λ (p : List ℕ × Json). p.0) left ms))
    (list_any-append (λ (other : List ℕ). bytes_eq other m.0) (names_in left) (names_in ms) ∙ neither (has m.0 (names_in left)) (has m.0 (names_in ms)) parts.0 (members_lack m.0 gs ms apart.0 a)))
    (never_repeats gs left ms d apart.1 parts.1 a)

-- what is left over has no field's name
none_in_both : (gs : Groups) → is_in_both gs no_fields ≡ false
none_in_both no_groups = refl
none_in_both (field name n gs) = none_in_both gs

pub left_apart : (gs : Groups) (value : Option Json) (left : List (List ℕ × Json)) → left_over gs value ≡ Ok left → is_in_both gs (fields_of left) ≡ false
left_apart gs None left h = let e : [] ≡ left = cc in subst (λ (l : List (List ℕ × Json)). is_in_both gs (fields_of l) ≡ false) e (none_in_both gs)
left_apart gs (Some (object fs)) left h = by (is_in_both gs fs) refl h
  where
    fields_back : (fs : Fields) → fields_of (pairs_of fs) ≡ fs
    fields_back no_fields = refl
    fields_back (json.field name j fs) = ap (λ (rest : Fields). json.field name j rest) (fields_back fs)

    by : (b : Bool) → is_in_both gs fs ≡ b → cond b (Err FieldInBoth) (Ok (pairs_of fs)) ≡ Ok left → is_in_both gs (fields_of left) ≡ false
    by true e h = absurd cc
    by false e h = let is : pairs_of fs ≡ left = cc in subst (λ (l : List (List ℕ × Json)). is_in_both gs (fields_of l) ≡ false) is (rw (fields_back fs) e)
left_apart gs (Some null) left h = absurd cc
left_apart gs (Some (boolean b)) left h = absurd cc
left_apart gs (Some (number d)) left h = absurd cc
left_apart gs (Some (text s)) left h = absurd cc
left_apart gs (Some (array ps)) left h = absurd cc

-- the same of what the code holds: the names of its members, which it found to repeat, don't

ahead_ok : (done all : List (List ℕ × Json)) (r : Result (List (List ℕ × Json)) Rule) → ahead done r ≡ Ok all → (ms : List (List ℕ × Json)) × ((r ≡ Ok ms) × (done ++ ms ≡ all))
ahead_ok done all (Ok ms) h = let is : done ++ ms ≡ all = cc in (ms, (refl, is))
ahead_ok done all (Err rule) h = absurd cc

names_kept : (pairs : List (List ℕ × Tree)) → names_in (map pair_seen pairs) ≡ map (λ pair. pair.0) pairs
names_kept [] = refl
names_kept (p ∷ pairs) = ap (λ (rest : List (List ℕ)). p.0 ∷ rest) (names_kept pairs)

pub not_repeated : (mask : ℕ → Bool) (names : List (List ℕ)) (gs : Groups) (k above : ℕ) (xs : Recs) (value : Option Json) (left pairs : List (List ℕ × Tree))
    → repeats (field_names gs) ≡ false → left_over gs value ≡ Ok (map pair_seen left) → repeats (map (λ pair. pair.0) left) ≡ false
    → ahead (map pair_seen left) (fields_seen mask names gs k above xs) ≡ Ok (map pair_seen pairs) → repeats (map (λ pair. pair.0) pairs) ≡ true → ⊥
not_repeated mask names gs k above xs value left pairs d l r h twice =
    let found = ahead_ok (map pair_seen left) (map pair_seen pairs) (fields_seen mask names gs k above xs) h in
    let never = never_repeats gs (map pair_seen left) found.0 d (left_apart gs value (map pair_seen left) l) (subst (λ (all : List (List ℕ)). repeats all ≡ false) (sym (names_kept left)) r) (seen_are mask names gs k above xs found.0 found.1.0) in
    let all : names_in (map pair_seen left ++ found.0) ≡ map (λ pair. pair.0) pairs = ap names_in found.1.1 ∙ names_kept pairs in
    let once : repeats (map (λ (pair : List ℕ × Tree). pair.0) pairs) ≡ false = subst (λ (some : List (List ℕ)). repeats some ≡ false) all never in
    let wrong : true ≡ false = sym twice ∙ once in
    cc

-- the same where nothing is left over
pub not_repeated_alone : (mask : ℕ → Bool) (names : List (List ℕ)) (gs : Groups) (k above : ℕ) (xs : Recs) (left pairs : List (List ℕ × Tree))
    → repeats (field_names gs) ≡ false → left ≡ [] → ahead (map pair_seen left) (fields_seen mask names gs k above xs) ≡ Ok (map pair_seen pairs) → repeats (map (λ pair. pair.0) pairs) ≡ true → ⊥
not_repeated_alone mask names gs k above xs left pairs d e h twice =
    not_repeated mask names gs k above xs None [] pairs d refl refl (subst (λ (l : List (List ℕ × Tree)). ahead (map pair_seen l) (fields_seen mask names gs k above xs) ≡ Ok (map pair_seen pairs)) e h) twice
