-- Arrays and objects of valid items are valid.
use Rattle.std.proofs.Common.{◌≡◌, ◌∙◌, refl, sym, ap, subst, ℕ, zero, suc, pred, ◌+◌, ◌<◌, ◌≤◌, ◌==◌, nat_lt, nat_le, max, Bool, true, false, ◌&&◌, cond, List, [], ◌∷◌, length, take, drop, get_or, Option, None, Some, arith, get_or-drop, lit<, bytes_eq}
use Rattle.std.specs.Cmp.Lexicographic.{slice_cmp}
use Rattle.std.specs.List.{AllByRecursion, list_all}
use Rattle.std.specs.Ordering.{nat_cmp, is_lt}
use Rattle.std.specs.Str.{is_utf8}
use Rattle.std.specs.declared.cmp.Ordering.{Ordering}
use Rattle.std.specs.declared.cmp.Ordering.TheVariants.{Less, Equal, Greater}
use Rattle.std.proofs.lemmas.Bool.Decides.{nat_tests}
use Rattle.std.proofs.lemmas.Cmp.{nat_list_cmp_total}
use Rattle.std.proofs.lemmas.Map.Keys.{sorted_from_all_adjacent}
use Rattle.std.proofs.lemmas.Slice.Eq.{bytes_eq-Decides}
use Rattle.std.proofs.lemmas.Str.{is_utf8-from_IsUtf8, IsUtf8-from_ascii}
use Rattle.json_tree.specs.Json.{Json, array, object, parts_of, fields_of, names_of, depth_of, parts_depth, fields_depth}
use Rattle.json_tree.specs.Order.{NamesRise}
use Rattle.json_tree.specs.Valid.{IsValid, AreValid, HoldValid}
use Rattle.vs_bytes.specs.declared.rule.Rule.{Rule}
use Rattle.vs_bytes.specs.declared.rule.Rule.TheVariants.{FieldId, FieldOrder}
use Rattle.variant_meta.specs.Names.{name_at, place_of, is_before}
use Rattle.variant_read.specs.Layout.{is_object, field_id, count, region, container_size}
use Rattle.variant_read.specs.Meaning.{field_name, field_fault, entries_from, entries, unless_fault, items_at, members_from, with_items, container, by_basic_type, value_of}
use Rattle.variant_read.specs.Primitives.{Kind}
use Rattle.variant_write.specs.Conditions.{HasName, HasNames, ElementsHaveNames, FieldsHaveNames}
use Rattle.variant_laws.specs.Bytes.{AreBytes}
use Rattle.variant_laws.proofs.Holding.{Holds, holds_ok, holds_err, holds_if, holds_then}
use Rattle.variant_laws.proofs.ValidPlain.{IsGood, GivesGood, good_if, primitive_good, short_good}

-- Parts of bytes are bytes.

dropped_are : (n : ℕ) (bytes : List ℕ) → AreBytes bytes → AreBytes (drop n bytes)
dropped_are n bytes are k = rw (get_or-drop n bytes k 0) (are (n + k))

taken_are : (n : ℕ) (bytes : List ℕ) → AreBytes bytes → AreBytes (take n bytes)
taken_are zero bytes are k = lit< tt
taken_are (suc n) [] are k = lit< tt
taken_are (suc n) (byte ∷ bytes) are zero = are 0
taken_are (suc n) (byte ∷ bytes) are (suc k) = taken_are n bytes (λ j. are (suc j)) k

region_are : (bytes : List ℕ) → AreBytes bytes → AreBytes (region bytes)
unfolding region
region_are bytes are = taken_are _ _ (dropped_are _ bytes are)

-- The items.

-- what a kind gives is good, whatever the bytes
abbrev pub IsGoodKind : List (List ℕ) → ℕ → Kind → Type 0
IsGoodKind ns room kind = (bytes : List ℕ) → AreBytes bytes → Holds (IsGood ns room (length bytes)) (kind bytes)

pub value_good : (ns : List (List ℕ)) (room : ℕ) (inside : Kind) → GivesGood ns room inside → IsGoodKind ns room (value_of inside)
unfolding value_of by_basic_type
value_good ns room inside good bytes are =
    holds_if (IsGood ns room (length bytes)) (length bytes == 0) _ _ (λ _. holds_err _ _)
    (λ e. good_if ns room _ _ _ (primitive_good ns room) (good_if ns room _ _ _ (short_good ns room) good) bytes are (grind (arith, nat_tests)))

record AreGood (ns : List (List ℕ)) (room : ℕ) (entries : List (Option Rule × ℕ)) (items : List Json) : Type 0 where
  valid : AllByRecursion IsValid items
  named : AllByRecursion (HasNames ns) items
  depth : parts_depth (parts_of items) ≤ room
  allowed : AllByRecursion (λ entry. entry.0 ≡ None) entries
  many : length items ≡ length entries

no_fault : (fault : Option Rule) → Holds (λ _. fault ≡ None) (unless_fault fault)
no_fault None = holds_ok _ tt refl
no_fault (Some rule) = holds_err _ rule

items_good : (ns : List (List ℕ)) (room : ℕ) (kind : Kind) (area : List ℕ) (used : ℕ) (es : List (Option Rule × ℕ)) → IsGoodKind ns room kind → AreBytes area → Holds (AreGood ns room es) (items_at kind area used es)
unfolding items_at
items_good ns room kind area used [] good are = holds_ok (AreGood ns room []) [] (record { valid = tt; named = tt; depth = omega arith; allowed = tt; many = refl })
items_good ns room kind area used (entry ∷ es) good are =
    let all : List Json → Type 0 = AreGood ns room (entry ∷ es) in
    holds_then (λ _. entry.0 ≡ None) all (unless_fault entry.0) _ (no_fault entry.0) (λ _ none.
    holds_if all (nat_lt (length area) entry.1) _ _ (λ _. holds_err _ _) (λ _.
    holds_then (IsGood ns room (length (drop entry.1 area))) all (kind (drop entry.1 area)) _ (good (drop entry.1 area) (dropped_are entry.1 area are)) (λ item is.
    holds_if all (nat_lt (length area) (used + item.1)) _ _ (λ _. holds_err _ _) (λ _.
    holds_then (AreGood ns room es) all (items_at kind area (used + item.1) es) _ (items_good ns room kind area (used + item.1) es good are) (λ items more.
    let own = is.depth in let others = more.depth in
    holds_ok all (item.0 ∷ items) (record { valid = (is.valid, more.valid); named = (is.named, more.named); depth = omega (arith, own, others); allowed = (none, more.allowed); many = ap suc more.many }))))))

-- Their names.

fault_at : (names : List (List ℕ)) (bytes : List ℕ) (i n k : ℕ) → AllByRecursion (λ entry. entry.0 ≡ None) (entries_from names bytes i n) → k < n → field_fault names bytes (i + k) ≡ None
unfolding entries_from
fault_at names bytes i zero k all h = absurd (omega (arith, h))
fault_at names bytes i (suc n) zero all h = let e : i + zero ≡ i = omega arith in rw e all.0
fault_at names bytes i (suc n) (suc k) all h = let e : i + suc k ≡ suc i + k = omega arith in rw e (fault_at names bytes (suc i) n k all.1 (omega (arith, h)))

entries_len : (names : List (List ℕ)) (bytes : List ℕ) (i n : ℕ) → length (entries_from names bytes i n) ≡ n
unfolding entries_from
entries_len names bytes i zero = refl
entries_len names bytes i (suc n) = ap suc (entries_len names bytes (suc i) n)

above : (names : List (List ℕ)) (bytes : List ℕ) (k : ℕ) → is_object bytes ≡ true → field_fault names bytes (suc k) ≡ None → is_before (field_name names bytes k) (field_name names bytes (suc k)) ≡ true
unfolding field_fault
above names bytes k is h =
    let later : (suc k == 0) ≡ false = grind (arith, nat_tests) in
    let known = nat_le (length names) (field_id bytes (suc k)) in
    let before = is_before (field_name names bytes k) (field_name names bytes (suc k)) in
    let e : field_fault names bytes (suc k) ≡ cond known (Some FieldId) (cond before None (Some FieldOrder)) = rw (is, later) refl in
    by known before (sym e ∙ h)
  where
    by : (a b : Bool) → cond a (Some FieldId) (cond b None (Some FieldOrder)) ≡ None → b ≡ true
    by true b e = absurd (cc)
    by false true e = refl
    by false false e = absurd (cc)

less_is : (r : Ordering) → is_lt r ≡ true → r ≡ Less
less_is Less e = refl
less_is Equal e = cc
less_is Greater e = cc

member_name : (names : List (List ℕ)) (bytes : List ℕ) (i : ℕ) (items : List Json) (k : ℕ) → k < length items → get_or (names_of (fields_of (members_from names bytes i items))) k [] ≡ field_name names bytes (i + k)
unfolding members_from
member_name names bytes i [] k h = absurd (omega (arith, h))
member_name names bytes i (item ∷ items) zero h = let e : i + zero ≡ i = omega arith in rw e refl
member_name names bytes i (item ∷ items) (suc k) h = let e : i + suc k ≡ suc i + k = omega arith in rw e (member_name names bytes (suc i) items k (omega (arith, h)))

members_len : (names : List (List ℕ)) (bytes : List ℕ) (i : ℕ) (items : List Json) → length (names_of (fields_of (members_from names bytes i items))) ≡ length items
unfolding members_from
members_len names bytes i [] = refl
members_len names bytes i (item ∷ items) = ap suc (members_len names bytes (suc i) items)

members_rise : (names : List (List ℕ)) (bytes : List ℕ) (items : List Json) → is_object bytes ≡ true → ((k : ℕ) → k < length items → field_fault names bytes k ≡ None) → NamesRise (fields_of (members_from names bytes 0 items))
members_rise names bytes items is faults = sorted_from_all_adjacent nat_list_cmp_total (names_of (fields_of (members_from names bytes 0 items))) [] each
  where
    named : (k : ℕ) → k < length items → get_or (names_of (fields_of (members_from names bytes 0 items))) k [] ≡ field_name names bytes k
    named k h = let e : 0 + k ≡ k = omega arith in member_name names bytes 0 items k h ∙ ap (field_name names bytes) e

    each : (k : ℕ) → k + 1 < length (names_of (fields_of (members_from names bytes 0 items))) → slice_cmp nat_cmp (get_or (names_of (fields_of (members_from names bytes 0 items))) k []) (get_or (names_of (fields_of (members_from names bytes 0 items))) (k + 1) []) ≡ Less
    each k h =
        let many = members_len names bytes 0 items in
        let next : k + 1 ≡ suc k = omega arith in
        rw (next, named k (omega (arith, h, many)), named (suc k) (omega (arith, h, many)))
        (less_is _ (above names bytes k is (faults (suc k) (omega (arith, h, many)))))

-- a place past all names has the empty name
name_utf8 : (names : List (List ℕ)) (k : ℕ) → list_all is_utf8 names ≡ true → is_utf8 (name_at names k) ≡ true
name_utf8 [] k all = is_utf8-from_IsUtf8 [] (IsUtf8-from_ascii [] (λ i. lit< tt))
name_utf8 (name ∷ names) k all = by (is_utf8 name) refl all k (λ h j. name_utf8 names j h)
  where
    by : (b : Bool) → is_utf8 name ≡ b → (b && list_all is_utf8 names) ≡ true → (k : ℕ) → (list_all is_utf8 names ≡ true → (j : ℕ) → is_utf8 (name_at names j) ≡ true) → is_utf8 (name_at (name ∷ names) k) ≡ true
    by false e h k on = cc
    by true e h zero on = e
    by true e h (suc k) on = on h k

members_valid : (names : List (List ℕ)) (bytes : List ℕ) (i : ℕ) (items : List Json) → list_all is_utf8 names ≡ true → AllByRecursion IsValid items → HoldValid (fields_of (members_from names bytes i items))
unfolding members_from field_name
members_valid names bytes i [] utf8 all = tt
members_valid names bytes i (item ∷ items) utf8 all = (name_utf8 names (field_id bytes i) utf8, all.0, members_valid names bytes (suc i) items utf8 all.1)

members_depth : (names : List (List ℕ)) (bytes : List ℕ) (i : ℕ) (items : List Json) → fields_depth (fields_of (members_from names bytes i items)) ≡ parts_depth (parts_of items)
unfolding members_from
members_depth names bytes i [] = refl
members_depth names bytes i (item ∷ items) = ap (λ (n : ℕ). max (depth_of item) n) (members_depth names bytes (suc i) items)

parts_valid : (items : List Json) → AllByRecursion IsValid items → AreValid (parts_of items)
parts_valid [] all = tt
parts_valid (item ∷ items) all = (all.0, parts_valid items all.1)

-- The names of members are among the names.

same_name : (name : List ℕ) → bytes_eq name name ≡ true
same_name name = (bytes_eq-Decides name name).1 refl

has_place : (names : List (List ℕ)) (id : ℕ) → id < length names → HasName names (name_at names id)
has_place [] id h = absurd (omega (arith, h))
has_place (name ∷ names) zero h = rw (same_name name) (omega arith)
has_place (name ∷ names) (suc id) h = by (bytes_eq name (name_at names id)) (has_place names id (omega (arith, h)))
  where
    by : (b : Bool) → place_of names (name_at names id) < length names → cond b 0 (suc (place_of names (name_at names id))) < suc (length names)
    by true low = omega arith
    by false low = omega (arith, low)

known : (names : List (List ℕ)) (bytes : List ℕ) (k : ℕ) → is_object bytes ≡ true → field_fault names bytes k ≡ None → field_id bytes k < length names
unfolding field_fault
known names bytes k is h =
    let order = cond (is_before (field_name names bytes (pred k)) (field_name names bytes k)) None (Some FieldOrder) in
    let e : field_fault names bytes k ≡ cond (nat_le (length names) (field_id bytes k)) (Some FieldId) (cond (k == 0) None order) = rw is refl in
    by (nat_le (length names) (field_id bytes k)) refl (cond (k == 0) None order) (sym e ∙ h)
  where
    by : (a : Bool) → nat_le (length names) (field_id bytes k) ≡ a → (rest : Option Rule) → cond a (Some FieldId) rest ≡ None → field_id bytes k < length names
    by true is rest e = absurd (cc)
    by false is rest e = grind (arith, nat_tests)

members_named : (names : List (List ℕ)) (bytes : List ℕ) (i : ℕ) (items : List Json) → is_object bytes ≡ true → ((k : ℕ) → k < length items → field_fault names bytes (i + k) ≡ None) → AllByRecursion (HasNames names) items → FieldsHaveNames names (fields_of (members_from names bytes i items))
unfolding members_from field_name
members_named names bytes i [] is faults all = tt
members_named names bytes i (item ∷ items) is faults all =
    let start : i + 0 ≡ i = omega arith in
    let own = known names bytes i is (subst (λ (k : ℕ). field_fault names bytes k ≡ None) start (faults 0 (omega arith))) in
    let on : (k : ℕ) → k < length items → field_fault names bytes (suc i + k) ≡ None = λ k h. let e : i + suc k ≡ suc i + k = omega arith in subst (λ (j : ℕ). field_fault names bytes j ≡ None) e (faults (suc k) (omega (arith, h))) in
    (has_place names (field_id bytes i) own, all.0, members_named names bytes (suc i) items is on all.1)

parts_named : (names : List (List ℕ)) (items : List Json) → AllByRecursion (HasNames names) items → ElementsHaveNames names (parts_of items)
parts_named names [] all = tt
parts_named names (item ∷ items) all = (all.0, parts_named names items all.1)

-- The whole.

whole_good : (names : List (List ℕ)) (room : ℕ) (bytes : List ℕ) (items : List Json) → list_all is_utf8 names ≡ true → AreGood names room (entries names bytes) items → container_size bytes ≤ length bytes → IsGood names (suc room) (length bytes) (with_items names bytes items, container_size bytes)
unfolding with_items entries
whole_good names room bytes items utf8 are inside = by (is_object bytes) refl
  where
    faults : (k : ℕ) → k < length items → field_fault names bytes k ≡ None
    faults k h =
        let e : 0 + k ≡ k = omega arith in
        let len = entries_len names bytes 0 (count bytes) in
        let many = are.many in
        subst (λ (j : ℕ). field_fault names bytes j ≡ None) e (fault_at names bytes 0 (count bytes) k are.allowed (omega (arith, h, len, many)))

    by : (b : Bool) → is_object bytes ≡ b → IsGood names (suc room) (length bytes) (cond b (object (fields_of (members_from names bytes 0 items))) (array (parts_of items)), container_size bytes)
    by true is =
        let same = members_depth names bytes 0 items in
        let depth = are.depth in
        record { valid = (members_rise names bytes items is faults, members_valid names bytes 0 items utf8 are.valid); named = members_named names bytes 0 items is (λ k h. let e : k ≡ 0 + k = omega arith in subst (λ (j : ℕ). field_fault names bytes j ≡ None) e (faults k h)) are.named; depth = omega (arith, same, depth); inside = inside }
    by false is = let depth = are.depth in record { valid = parts_valid items are.valid; named = parts_named names items are.named; depth = omega (arith, depth); inside = inside }

pub container_good : (names : List (List ℕ)) (room : ℕ) (kind : Kind) → list_all is_utf8 names ≡ true → IsGoodKind names room kind → GivesGood names (suc room) (container names kind)
unfolding container
container_good names room kind utf8 good bytes are some =
    holds_if (IsGood names (suc room) (length bytes)) (nat_lt (length bytes) (container_size bytes)) _ _ (λ _. holds_err _ _) (λ there.
    holds_then (AreGood names room (entries names bytes)) (IsGood names (suc room) (length bytes)) (items_at kind (region bytes) 0 (entries names bytes)) _ (items_good names room kind (region bytes) 0 (entries names bytes) good (region_are bytes are)) (λ items all.
    holds_ok (IsGood names (suc room) (length bytes)) (with_items names bytes items, container_size bytes) (whole_good names room bytes items utf8 all (grind (arith, nat_tests)))))
