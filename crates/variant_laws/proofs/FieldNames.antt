-- The names of an object's members, found by their ids.
use Rattle.std.proofs.Common.{◌≡◌, ◌∙◌, refl, sym, ap, subst, ℕ, zero, suc, ◌+◌, ◌<◌, ◌==◌, nat_le, Bool, true, false, cond, List, [], ◌∷◌, length, get_or, None, arith, bytes_eq, zero-add}
use Rattle.std.specs.Cmp.Lexicographic.{slice_cmp, same_text}
use Rattle.std.specs.Ordering.{nat_cmp, is_lt}
use Rattle.std.proofs.lemmas.Bool.Decides.{nat_tests}
use Rattle.std.proofs.lemmas.List.{get_or-map, length-map}
use Rattle.std.proofs.lemmas.Map.Keys.{Less-from_sorted}
use Rattle.json_tree.specs.Json.{array, object, Parts, no_parts, part, Fields, no_fields, field, parts_of, fields_of, items_of, names_of, values_of}
use Rattle.json_tree.specs.Order.{NamesRise}
use Rattle.variant_meta.specs.Names.{name_at, place_of, is_before}
use Rattle.variant_read.specs.Layout.{is_object, field_id}
use Rattle.variant_read.specs.Meaning.{field_name, field_fault, members_from, with_items}
use Rattle.variant_write.specs.Coded.{ids_of}
use Rattle.variant_write.specs.Conditions.{HasName, FieldsHaveNames}

-- the name at its own place
found_name : (names : List (List ℕ)) (name : List ℕ) → place_of names name < length names → name_at names (place_of names name) ≡ name
found_name [] name h = absurd (omega (arith, h))
found_name (other ∷ names) name h = by (bytes_eq other name) refl h (found_name names name)
  where
    by : (b : Bool) → bytes_eq other name ≡ b → cond b 0 (suc (place_of names name)) < suc (length names) → (place_of names name < length names → name_at names (place_of names name) ≡ name) → name_at (other ∷ names) (cond b 0 (suc (place_of names name))) ≡ name
    by true e h on = same_text other name (sym e)
    by false e h on = on (omega (arith, h))

-- each field's name is there
each_has : (names : List (List ℕ)) (members : Fields) → FieldsHaveNames names members → (k : ℕ) → k < length (names_of members) → HasName names (name_at (names_of members) k)
each_has names no_fields have k h = absurd (omega (arith, h))
each_has names (field name j members) have zero h = have.0
each_has names (field name j members) have (suc k) h = each_has names members have.2 k (omega (arith, h))

-- the ids of fields, where these bytes have them
abbrev pub HasIds : List (List ℕ) → Fields → List ℕ → Type 0
HasIds names members bytes = (k : ℕ) → k < length (ids_of names members) → field_id bytes k ≡ get_or (ids_of names members) k 0

id_at : (names : List (List ℕ)) (members : Fields) (bytes : List ℕ) (k : ℕ) → HasIds names members bytes → k < length (names_of members) → field_id bytes k ≡ place_of names (name_at (names_of members) k)
id_at names members bytes k ids h =
    let many = length-map (names_of members) (place_of names) in
    ids k (omega (arith, h, many)) ∙ get_or-map (place_of names) (names_of members) k [] 0 h

pub name_of_field : (names : List (List ℕ)) (members : Fields) (bytes : List ℕ) (k : ℕ) → FieldsHaveNames names members → HasIds names members bytes → k < length (names_of members) → field_name names bytes k ≡ name_at (names_of members) k
unfolding field_name
name_of_field names members bytes k have ids h =
    rw (id_at names members bytes k ids h) (found_name names (name_at (names_of members) k) (each_has names members have k h))

-- No field violates a rule.

in_order : (members : Fields) (k : ℕ) → NamesRise members → suc k < length (names_of members) → is_before (name_at (names_of members) k) (name_at (names_of members) (suc k)) ≡ true
in_order members k rise h = ap is_lt (Less-from_sorted (slice_cmp nat_cmp) (names_of members) k (suc k) [] rise (omega arith) h)

pub no_fault : (names : List (List ℕ)) (members : Fields) (bytes : List ℕ) (k : ℕ) → is_object bytes ≡ true → FieldsHaveNames names members → NamesRise members → HasIds names members bytes → k < length (names_of members) → field_fault names bytes k ≡ None
unfolding field_fault
no_fault names members bytes zero is have rise ids h =
    let there : nat_le (length names) (field_id bytes 0) ≡ false = (let id = id_at names members bytes 0 ids h in let low = each_has names members have 0 h in grind (arith, nat_tests)) in
    rw (is, there) refl
no_fault names members bytes (suc k) is have rise ids h =
    let there : nat_le (length names) (field_id bytes (suc k)) ≡ false = (let id = id_at names members bytes (suc k) ids h in let low = each_has names members have (suc k) h in grind (arith, nat_tests)) in
    let more : (suc k == 0) ≡ false = grind (arith, nat_tests) in
    rw (is, there, more, name_of_field names members bytes k have ids (omega (arith, h)), name_of_field names members bytes (suc k) have ids h, in_order members k rise h) refl

-- The members.

next : (m k : ℕ) → m + suc k ≡ suc m + k
next m k = omega arith

members_are : (names : List (List ℕ)) (bytes : List ℕ) (k : ℕ) (members : Fields) → ((m : ℕ) → m < length (names_of members) → field_name names bytes (m + k) ≡ name_at (names_of members) m) → fields_of (members_from names bytes k (values_of members)) ≡ members
unfolding members_from
members_are names bytes k no_fields each = refl
members_are names bytes k (field name j members) each =
    let own : field_name names bytes k ≡ name = subst (λ (n : ℕ). field_name names bytes n ≡ name) (zero-add k) (each 0 (omega arith)) in
    let rest = members_are names bytes (suc k) members (λ m h. rw (next m k) (each (suc m) (omega (arith, h)))) in
    rw (own, rest) refl

pub object_is : (names : List (List ℕ)) (members : Fields) (bytes : List ℕ) → is_object bytes ≡ true → FieldsHaveNames names members → HasIds names members bytes → with_items names bytes (values_of members) ≡ object members
unfolding with_items
object_is names members bytes is have ids =
    let same = members_are names bytes 0 members (λ m h. let e : m + 0 ≡ m = omega arith in rw e (name_of_field names members bytes m have ids h)) in
    rw (is, same) refl

-- Arrays have no names.

parts_are : (elements : Parts) → parts_of (items_of elements) ≡ elements
parts_are no_parts = refl
parts_are (part j elements) = ap (part j) (parts_are elements)

pub array_is : (names : List (List ℕ)) (elements : Parts) (bytes : List ℕ) → is_object bytes ≡ false → with_items names bytes (items_of elements) ≡ array elements
unfolding with_items
array_is names elements bytes is = rw (is, parts_are elements) refl

pub no_id : (names : List (List ℕ)) (bytes : List ℕ) (k : ℕ) → is_object bytes ≡ false → field_fault names bytes k ≡ None
unfolding field_fault
no_id names bytes k is = rw is refl
