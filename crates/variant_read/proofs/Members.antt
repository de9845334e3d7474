-- The members of an object that was judged: their names are the dictionary's, and rise.
use Rattle.std.proofs.Common.{◌≡◌, ◌∙◌, ◌⊎◌, inl, inr, refl, sym, ap, subst, ℕ, zero, suc, pred, ◌+◌, ◌<◌, ◌≤◌, List, [], ◌∷◌, length, Bool, true, false, cond, None, Some, bytes_eq, arith}
use Rattle.std.specs.Prelude.{slice_get, nat_le, ◌==◌, is_ok}
use Rattle.std.specs.Option.{option_map}
use Rattle.std.proofs.lemmas.Bool.Decides.{nat_tests}
use Rattle.std.proofs.lemmas.Option.{slice_get-map, get_or_from_slice_get}
use Rattle.json_tree.specs.Json.{Json, parts_of, fields_of, depth_of, parts_depth, fields_depth}
use Rattle.vs_bytes.specs.declared.rule.Rule.TheVariants.{FieldId, FieldOrder}
use Rattle.variant_meta.specs.Names.{AllBefore, NoneBefore, name_at, is_before, rise_after, names_rise, place_of}
use Rattle.variant_meta.proofs.Places.{raise, lower, found, absent_last, absent_here, place_most}
use Rattle.variant_read.specs.Layout.{is_object, count, field_id}
use Rattle.variant_read.specs.Meaning.{field_name, field_fault, members_from}
use Rattle.variant_read.specs.Items.{items_in, items_held, members_held, member_names, member_values}
use Rattle.variant_read.specs.Trees.{member_named}
use Rattle.variant_read.proofs.Items.{item_allowed, held_len}

-- What the id of a field says that was judged.

record Allowed (names : List (List ℕ)) (bytes : List ℕ) (k : ℕ) : Type 0 where
  known : field_id bytes k < length names
  above : (k ≡ 0) ⊎ (is_before (field_name names bytes (pred k)) (field_name names bytes k) ≡ true)

allowed : (names : List (List ℕ)) (bytes : List ℕ) (k : ℕ) → is_object bytes ≡ true → field_fault names bytes k ≡ None → Allowed names bytes k
unfolding field_fault
allowed names bytes k object h =
    let e : field_fault names bytes k ≡ cond (nat_le (length names) (field_id bytes k)) (Some FieldId) (cond (k == 0) None (cond (is_before (field_name names bytes (pred k)) (field_name names bytes k)) None (Some FieldOrder))) = rw object refl in
    by_known (nat_le (length names) (field_id bytes k)) refl (sym e ∙ h)
  where
    by_order : field_id bytes k < length names → (b : Bool) → is_before (field_name names bytes (pred k)) (field_name names bytes k) ≡ b → cond b None (Some FieldOrder) ≡ None → Allowed names bytes k
    by_order known true is e = record { known = known; above = inr is }
    by_order known false is e = absurd (cc)

    by_first : field_id bytes k < length names → (b : Bool) → (k == 0) ≡ b → cond b None (cond (is_before (field_name names bytes (pred k)) (field_name names bytes k)) None (Some FieldOrder)) ≡ None → Allowed names bytes k
    by_first known true is e = record { known = known; above = inl (grind (arith, nat_tests)) }
    by_first known false is e = by_order known (is_before (field_name names bytes (pred k)) (field_name names bytes k)) refl e

    by_known : (b : Bool) → nat_le (length names) (field_id bytes k) ≡ b → cond b (Some FieldId) (cond (k == 0) None (cond (is_before (field_name names bytes (pred k)) (field_name names bytes k)) None (Some FieldOrder))) ≡ None → Allowed names bytes k
    by_known true is e = absurd (cc)
    by_known false is e = by_first (grind (arith, nat_tests)) (k == 0) refl e

pub id_known : (names : List (List ℕ)) (room : ℕ) (bytes : List ℕ) (k : ℕ) → is_object bytes ≡ true → is_ok (items_in names room bytes) ≡ true → k < count bytes → field_id bytes k < length names
id_known names room bytes k object ok inside = (allowed names bytes k object (item_allowed names room bytes k ok inside)).known

above_last : (names : List (List ℕ)) (room : ℕ) (bytes : List ℕ) (k : ℕ) → is_object bytes ≡ true → is_ok (items_in names room bytes) ≡ true → suc k < count bytes → is_before (field_name names bytes k) (field_name names bytes (suc k)) ≡ true
above_last names room bytes k object ok inside = by (allowed names bytes (suc k) object (item_allowed names room bytes (suc k) ok inside)).above
  where
    by : (suc k ≡ 0) ⊎ (is_before (field_name names bytes k) (field_name names bytes (suc k)) ≡ true) → is_before (field_name names bytes k) (field_name names bytes (suc k)) ≡ true
    by (inl e) = absurd (omega (arith, e))
    by (inr h) = h

-- The list of members.

members_len : (names : List (List ℕ)) (bytes : List ℕ) (i : ℕ) (items : List Json) → length (members_from names bytes i items) ≡ length items
unfolding members_from
members_len names bytes i [] = refl
members_len names bytes i (item ∷ items) = ap suc (members_len names bytes (suc i) items)

values_are : (names : List (List ℕ)) (bytes : List ℕ) (i : ℕ) (items : List Json) → member_values (members_from names bytes i items) ≡ items
unfolding members_from
values_are names bytes i [] = refl
values_are names bytes i (item ∷ items) = ap (λ (rest : List Json). item ∷ rest) (values_are names bytes (suc i) items)

name_is : (names : List (List ℕ)) (bytes : List ℕ) (i : ℕ) (items : List Json) (k : ℕ) → k < length items → slice_get (member_names (members_from names bytes i items)) k ≡ Some (field_name names bytes (i + k))
unfolding members_from
name_is names bytes i [] k h = absurd (omega (arith, h))
name_is names bytes i (item ∷ items) zero h = let e : i + zero ≡ i = omega arith in rw e refl
name_is names bytes i (item ∷ items) (suc k) h =
    let e : i + suc k ≡ suc i + k = omega arith in
    rw e (name_is names bytes (suc i) items k (omega (arith, h)))

rise_from : (names : List (List ℕ)) (bytes : List ℕ) (i : ℕ) (items : List Json) → ((k : ℕ) → k < length items → is_before (field_name names bytes (i + k)) (field_name names bytes (suc (i + k))) ≡ true) → rise_after (field_name names bytes i) (member_names (members_from names bytes (suc i) items)) ≡ true
unfolding members_from
rise_from names bytes i [] each = refl
rise_from names bytes i (item ∷ items) each =
    let start : i + 0 ≡ i = omega arith in
    let one : is_before (field_name names bytes i) (field_name names bytes (suc i)) ≡ true = subst (λ (j : ℕ). is_before (field_name names bytes j) (field_name names bytes (suc j)) ≡ true) start (each 0 (omega arith)) in
    rw one (rise_from names bytes (suc i) items (λ k h. let e : i + suc k ≡ suc i + k = omega arith in subst (λ (j : ℕ). is_before (field_name names bytes j) (field_name names bytes (suc j)) ≡ true) e (each (suc k) (omega (arith, h)))))

pub held_members_len : (names : List (List ℕ)) (room : ℕ) (bytes : List ℕ) → is_ok (items_in names room bytes) ≡ true → length (members_held names room bytes) ≡ count bytes
unfolding members_held
held_members_len names room bytes ok = members_len names bytes 0 (items_held names room bytes) ∙ held_len names room bytes ok

pub held_names_rise : (names : List (List ℕ)) (room : ℕ) (bytes : List ℕ) → is_object bytes ≡ true → is_ok (items_in names room bytes) ≡ true → names_rise (member_names (members_held names room bytes)) ≡ true
unfolding members_held members_from
held_names_rise names room bytes object ok = by (items_held names room bytes) (held_len names room bytes ok)
  where
    by : (items : List Json) → length items ≡ count bytes → names_rise (member_names (members_from names bytes 0 items)) ≡ true
    by [] len = refl
    by (item ∷ items) len =
        rise_from names bytes 0 items (λ k h. let e : 0 + k ≡ k = omega arith in rw e (above_last names room bytes k object ok (omega (arith, h, len))))

-- the name and the value of a place

name_listed : (names : List (List ℕ)) (room : ℕ) (bytes : List ℕ) (k : ℕ) → is_ok (items_in names room bytes) ≡ true → k < count bytes → slice_get (member_names (members_held names room bytes)) k ≡ Some (name_at names (field_id bytes k))
unfolding members_held field_name
name_listed names room bytes k ok inside =
    let len = held_len names room bytes ok in
    let start : 0 + k ≡ k = omega arith in
    name_is names bytes 0 (items_held names room bytes) k (omega (arith, inside, len)) ∙ ap (λ (i : ℕ). Some (field_name names bytes i)) start

pub member_name_at : (names : List (List ℕ)) (room : ℕ) (bytes : List ℕ) (k : ℕ) → is_ok (items_in names room bytes) ≡ true → k < count bytes → name_at (member_names (members_held names room bytes)) k ≡ name_at names (field_id bytes k)
member_name_at names room bytes k ok inside =
    get_or_from_slice_get (member_names (members_held names room bytes)) k (name_at names (field_id bytes k)) [] (name_listed names room bytes k ok inside)

pub member_name_listed : (names : List (List ℕ)) (room : ℕ) (bytes : List ℕ) (k : ℕ) → is_ok (items_in names room bytes) ≡ true → k < count bytes → option_map (λ member. member.0) (slice_get (members_held names room bytes) k) ≡ Some (name_at names (field_id bytes k))
member_name_listed names room bytes k ok inside =
    sym (slice_get-map (λ (member : List ℕ × Json). member.0) (members_held names room bytes) k) ∙ name_listed names room bytes k ok inside

pub member_value_listed : (names : List (List ℕ)) (room : ℕ) (bytes : List ℕ) (k : ℕ) (j : Json) → slice_get (items_held names room bytes) k ≡ Some j → option_map (λ member. member.1) (slice_get (members_held names room bytes) k) ≡ Some j
unfolding members_held
member_value_listed names room bytes k j h =
    sym (slice_get-map (λ (member : List ℕ × Json). member.1) (members_held names room bytes) k)
    ∙ ap (λ (xs : List Json). slice_get xs k) (values_are names bytes 0 (items_held names room bytes)) ∙ h

-- The member of a name, by its place.

there : (name : List ℕ) (members : List (List ℕ × Json)) (k : ℕ) (j : Json) → place_of (member_names members) name ≡ k → slice_get (member_values members) k ≡ Some j → member_named name members ≡ Some j
there name [] k j e h = absurd (cc)
there name (member ∷ members) k j e h = by (bytes_eq member.0 name) k e h (λ n. there name members n j)
  where
    by : (b : Bool) (k : ℕ) → cond b 0 (suc (place_of (member_names members) name)) ≡ k → slice_get (member.1 ∷ member_values members) k ≡ Some j → ((n : ℕ) → place_of (member_names members) name ≡ n → slice_get (member_values members) n ≡ Some j → member_named name members ≡ Some j) → cond b (Some member.1) (member_named name members) ≡ Some j
    by true zero e h rest = h
    by true (suc k) e h rest = absurd (omega (arith, e))
    by false zero e h rest = absurd (omega (arith, e))
    by false (suc k) e h rest = rest k (omega (arith, e)) h

pub named_there : (name : List ℕ) (members : List (List ℕ × Json)) (k : ℕ) (j : Json) → k ≡ place_of (member_names members) name → option_map (λ member. member.1) (slice_get members k) ≡ Some j → member_named name members ≡ Some j
named_there name members k j e h = there name members k j (sym e) (slice_get-map (λ (member : List ℕ × Json). member.1) members k ∙ h)

pub named_nowhere : (name : List ℕ) (members : List (List ℕ × Json)) → place_of (member_names members) name ≡ length members → member_named name members ≡ None
named_nowhere name [] e = refl
named_nowhere name (member ∷ members) e = by (bytes_eq member.0 name) e (named_nowhere name members)
  where
    by : (b : Bool) → cond b 0 (suc (place_of (member_names members) name)) ≡ suc (length members) → (place_of (member_names members) name ≡ length members → member_named name members ≡ None) → cond b (Some member.1) (member_named name members) ≡ None
    by true e rest = absurd (omega (arith, e))
    by false e rest = rest (omega (arith, e))

-- What is inside nests less deep: what a recursion over views falls by.

pub item_depth : (items : List Json) (k : ℕ) (j : Json) → slice_get items k ≡ Some j → depth_of j ≤ parts_depth (parts_of items)
item_depth [] k j h = absurd (cc)
item_depth (item ∷ items) zero j h = let e : item ≡ j = cc in rw (sym e) (omega arith)
item_depth (item ∷ items) (suc k) j h = let less = item_depth items k j h in omega (arith, less)

pub member_depth : (members : List (List ℕ × Json)) (k : ℕ) (j : Json) → option_map (λ member. member.1) (slice_get members k) ≡ Some j → depth_of j ≤ fields_depth (fields_of members)
member_depth [] k j h = absurd (cc)
member_depth (member ∷ members) zero j h = let e : member.1 ≡ j = cc in rw (sym e) (omega arith)
member_depth (member ∷ members) (suc k) j h = let less = member_depth members k j h in omega (arith, less)

-- The search by name: variant_meta's lemmas for an object's names.

names_len : (members : List (List ℕ × Json)) → length (member_names members) ≡ length members
names_len [] = refl
names_len (member ∷ members) = ap suc (names_len members)

pub place_within : (members : List (List ℕ × Json)) (name : List ℕ) → place_of (member_names members) name ≤ length members
place_within members name = let len = names_len members in let most = place_most (member_names members) name in omega (arith, len, most)

pub raise_members : (names : List (List ℕ)) (room : ℕ) (bytes : List ℕ) (name : List ℕ) (k : ℕ) → is_object bytes ≡ true → is_ok (items_in names room bytes) ≡ true → k < length (members_held names room bytes) → is_before (name_at (member_names (members_held names room bytes)) k) name ≡ true → AllBefore (member_names (members_held names room bytes)) name (k + 1)
raise_members names room bytes name k object ok inside here =
    let len = names_len (members_held names room bytes) in
    raise (member_names (members_held names room bytes)) name k (held_names_rise names room bytes object ok) (omega (arith, len, inside)) here

pub lower_members : (names : List (List ℕ)) (room : ℕ) (bytes : List ℕ) (name : List ℕ) (k : ℕ) → is_object bytes ≡ true → is_ok (items_in names room bytes) ≡ true → is_before (name_at (member_names (members_held names room bytes)) k) name ≡ false → NoneBefore (member_names (members_held names room bytes)) name k
lower_members names room bytes name k object ok here =
    lower (member_names (members_held names room bytes)) name k (held_names_rise names room bytes object ok) here

pub found_member : (members : List (List ℕ × Json)) (name : List ℕ) (k : ℕ) → AllBefore (member_names members) name k → k < length members → bytes_eq (name_at (member_names members) k) name ≡ true → place_of (member_names members) name ≡ k
found_member members name k before inside same = let len = names_len members in found (member_names members) name k before (omega (arith, len, inside)) same

pub no_member_last : (members : List (List ℕ × Json)) (name : List ℕ) → AllBefore (member_names members) name (length members) → place_of (member_names members) name ≡ length members
no_member_last members name before =
    absent_last (member_names members) name (subst (λ (k : ℕ). AllBefore (member_names members) name k) (sym (names_len members)) before) ∙ names_len members

pub no_member_here : (names : List (List ℕ)) (room : ℕ) (bytes : List ℕ) (name : List ℕ) (k : ℕ) → is_object bytes ≡ true → is_ok (items_in names room bytes) ≡ true → AllBefore (member_names (members_held names room bytes)) name k → NoneBefore (member_names (members_held names room bytes)) name k → bytes_eq (name_at (member_names (members_held names room bytes)) k) name ≡ false → place_of (member_names (members_held names room bytes)) name ≡ length (members_held names room bytes)
no_member_here names room bytes name k object ok before after other =
    absent_here (member_names (members_held names room bytes)) name k (held_names_rise names room bytes object ok) before after other
    ∙ names_len (members_held names room bytes)
