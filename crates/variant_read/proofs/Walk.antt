-- The walk over the items of an object or array: what is left of it after some items.
use Rattle.std.proofs.Common.{◌≡◌, ◌∙◌, ◌⊎◌, inl, inr, refl, sym, ap, ℕ, zero, suc, pred, ◌+◌, ◌-◌, ◌<◌, ◌≤◌, List, ◌∷◌, length, drop, Bool, true, false, cond, Option, None, Some, Result, Ok, Err, arith}
use Rattle.std.specs.Prelude.{◌==◌, nat_lt}
use Rattle.std.proofs.lemmas.Bool.{cases_lt, le-ltb, lt-ltb, le-leb, lt-leb}
use Rattle.std.proofs.lemmas.Bool.Decides.{nat_tests}
use Rattle.json_tree.specs.Json.{Json}
use Rattle.vs_bytes.specs.Outcome.{◌>>=◌}
use Rattle.vs_bytes.specs.declared.rule.Rule.{Rule}
use Rattle.vs_bytes.specs.declared.rule.Rule.TheVariants.{ValueShort, ValueTooDeep, FieldId, FieldOrder, Offsets}
use Rattle.variant_meta.specs.Names.{name_at, is_before}
use Rattle.variant_read.specs.Judging.{used_with, size_from, allowed_id, AllAllowed, IdsJudged}
use Rattle.variant_read.specs.Layout.{basic_type, is_object, count, field_id, offset, region, fixed_size, last_offset, container_size}
use Rattle.variant_read.specs.Primitives.{Kind, Meaning, primitive, short_string, unread_kind}
use Rattle.variant_read.specs.Meaning.{field_name, field_fault, entries_from, entries, unless_fault, items_at, with_items, container, size_in, by_basic_type, value_of, value_within}

pub size_end : (value : Kind) (names : List (List ℕ)) (bytes : List ℕ) (k used : ℕ) → count bytes ≤ k → size_from value names bytes k used ≡ Ok (container_size bytes)
unfolding size_from entries_from items_at
size_end value names bytes k used past = let e : count bytes - k ≡ 0 = omega (arith, past) in rw e refl

sized : (value : Kind) (area : List ℕ) (used at size : ℕ) (es : List (Option Rule × ℕ)) (f : Option Rule) → (items_at value area used ((f, at) ∷ es) >>= λ _. Ok size) ≡ (unless_fault f >>= λ _. used_with value area used at >>= λ all. items_at value area all es >>= λ _. Ok size)
unfolding items_at used_with
sized value area used at size es (Some rule) = refl
sized value area used at size es None = by (nat_lt (length area) at)
  where
    by_rest : (item : Json) (r : Result (List Json) Rule) → ((r >>= λ items. Ok (item ∷ items)) >>= λ _. Ok size) ≡ (r >>= λ _. Ok size)
    by_rest item (Ok items) = refl
    by_rest item (Err rule) = refl

    by_sum : (item : Json × ℕ) (b : Bool) → (cond b (Err Offsets) (items_at value area (used + item.1) es >>= λ items. Ok (item.0 ∷ items)) >>= λ _. Ok size) ≡ (cond b (Err Offsets) (Ok (used + item.1)) >>= λ all. items_at value area all es >>= λ _. Ok size)
    by_sum item true = refl
    by_sum item false = by_rest item.0 (items_at value area (used + item.1) es)

    by_value : (r : Meaning) → ((r >>= λ item. cond (nat_lt (length area) (used + item.1)) (Err Offsets) (items_at value area (used + item.1) es >>= λ items. Ok (item.0 ∷ items))) >>= λ _. Ok size) ≡ ((size_in r >>= λ n. cond (nat_lt (length area) (used + n)) (Err Offsets) (Ok (used + n))) >>= λ all. items_at value area all es >>= λ _. Ok size)
    by_value (Err rule) = refl
    by_value (Ok item) = by_sum item (nat_lt (length area) (used + item.1))

    by : (b : Bool) → (cond b (Err Offsets) (value (drop at area) >>= λ item. cond (nat_lt (length area) (used + item.1)) (Err Offsets) (items_at value area (used + item.1) es >>= λ items. Ok (item.0 ∷ items))) >>= λ _. Ok size) ≡ (cond b (Err Offsets) (size_in (value (drop at area)) >>= λ n. cond (nat_lt (length area) (used + n)) (Err Offsets) (Ok (used + n))) >>= λ all. items_at value area all es >>= λ _. Ok size)
    by true = refl
    by false = by_value (value (drop at area))

-- item k and those after it, where its id violates no rule
abbrev from_item : Kind → List (List ℕ) → List ℕ → ℕ → ℕ → Result ℕ Rule
from_item value names bytes k used = used_with value (region bytes) used (offset bytes k) >>= λ all. size_from value names bytes (k + 1) all

-- a turn
turned : (value : Kind) (names : List (List ℕ)) (bytes : List ℕ) (k used : ℕ) → k < count bytes → size_from value names bytes k used ≡ (unless_fault (field_fault names bytes k) >>= λ _. from_item value names bytes k used)
unfolding size_from entries_from
turned value names bytes k used inside =
    let e : count bytes - k ≡ suc (count bytes - (k + 1)) = omega (arith, inside) in
    let next : k + 1 ≡ suc k = omega arith in
    rw (e, next) (sized value (region bytes) used (offset bytes k) (container_size bytes) (entries_from names bytes (suc k) (count bytes - suc k)) (field_fault names bytes k))

pub size_whole : (names : List (List ℕ)) (value : Kind) (bytes : List ℕ) → fixed_size bytes + last_offset bytes ≤ length bytes → size_in (container names value bytes) ≡ size_from value names bytes 0 0
unfolding size_from container entries container_size
size_whole names value bytes there =
    let all : count bytes - 0 ≡ count bytes = omega arith in
    rw (le-ltb (length bytes) (fixed_size bytes + last_offset bytes) there, all) (by (items_at value (region bytes) 0 (entries_from names bytes 0 (count bytes))))
  where
    by : (r : Result (List Json) Rule) → size_in (r >>= λ items. Ok (with_items names bytes items, container_size bytes)) ≡ (r >>= λ _. Ok (container_size bytes))
    by (Ok items) = refl
    by (Err rule) = refl

pub short_whole : (names : List (List ℕ)) (value : Kind) (bytes : List ℕ) → length bytes < container_size bytes → size_in (container names value bytes) ≡ Err ValueShort
unfolding container
short_whole names value bytes short = rw (lt-ltb (length bytes) (container_size bytes) short) refl

-- What is known of the whole after a turn.

pub item_passed : (value : Kind) (names : List (List ℕ)) (bytes : List ℕ) (k used all : ℕ) (whole : Result ℕ Rule) → whole ≡ size_from value names bytes k used → k < count bytes → field_fault names bytes k ≡ None → used_with value (region bytes) used (offset bytes k) ≡ Ok all → whole ≡ size_from value names bytes (k + 1) all
item_passed value names bytes k used all whole start inside allowed with = start ∙ turned value names bytes k used inside ∙ rw (allowed, with) refl

pub item_failed : (value : Kind) (names : List (List ℕ)) (bytes : List ℕ) (k used : ℕ) (rule : Rule) (whole : Result ℕ Rule) → whole ≡ size_from value names bytes k used → k < count bytes → field_fault names bytes k ≡ None → used_with value (region bytes) used (offset bytes k) ≡ Err rule → whole ≡ Err rule
item_failed value names bytes k used rule whole start inside allowed with = start ∙ turned value names bytes k used inside ∙ rw (allowed, with) refl

-- The first items, whose ids violate no rule.

pub judged_whole : (names : List (List ℕ)) (bytes : List ℕ) (len size : ℕ) → len ≡ count bytes → size ≡ container_size bytes → AllAllowed names bytes len → IdsJudged names bytes len (Ok size)
judged_whole names bytes len size all is good = record {
  most = omega (arith, all);
  allowed = good;
  after = λ value used. size_end value names bytes len used (omega (arith, all)) ∙ ap (λ (n : ℕ). Ok n) (sym is);
}

pub judged_array : (names : List (List ℕ)) (bytes : List ℕ) (len size : ℕ) → is_object bytes ≡ false → len ≡ count bytes → size ≡ container_size bytes → IdsJudged names bytes len (Ok size)
unfolding field_fault
judged_array names bytes len size array all is = judged_whole names bytes len size all is (λ j h. rw array refl)

pub judged_broken : (names : List (List ℕ)) (bytes : List ℕ) (k : ℕ) (rule : Rule) → k < count bytes → AllAllowed names bytes k → allowed_id names bytes k ≡ Err rule → IdsJudged names bytes k (Err rule)
unfolding allowed_id
judged_broken names bytes k rule inside good bad = record {
  most = omega (arith, inside);
  allowed = good;
  after = λ value used. turned value names bytes k used inside ∙ by (field_fault names bytes k) bad (from_item value names bytes k used);
}
  where
    by : (f : Option Rule) → (unless_fault f >>= λ _. Ok (field_id bytes k)) ≡ Err rule → (r : Result ℕ Rule) → (unless_fault f >>= λ _. r) ≡ Err rule
    by None h r = absurd (cc)
    by (Some other) h r = let same : other ≡ rule = cc in ap (λ (x : Rule). Err x) same

given : (names : List (List ℕ)) (bytes : List ℕ) (k id : ℕ) → allowed_id names bytes k ≡ Ok id → (field_fault names bytes k ≡ None) × (id ≡ field_id bytes k)
unfolding allowed_id
given names bytes k id e = by (field_fault names bytes k) e
  where
    by : (f : Option Rule) → (unless_fault f >>= λ _. Ok (field_id bytes k)) ≡ Ok id → (f ≡ None) × (id ≡ field_id bytes k)
    by None h = (refl, cc)
    by (Some rule) h = absurd (cc)

pub id_given : (names : List (List ℕ)) (bytes : List ℕ) (k id : ℕ) → allowed_id names bytes k ≡ Ok id → id ≡ field_id bytes (k + 1 - 1)
id_given names bytes k id e = let one : k + 1 - 1 ≡ k = omega arith in rw one (given names bytes k id e).1

pub one_more : (names : List (List ℕ)) (bytes : List ℕ) (k id : ℕ) → AllAllowed names bytes k → allowed_id names bytes k ≡ Ok id → AllAllowed names bytes (k + 1)
one_more names bytes k id good e j less = by (cases_lt j k)
  where
    by : (j < k) ⊎ (k ≤ j) → field_fault names bytes j ≡ None
    by (inl low) = good j low
    by (inr high) = let same : j ≡ k = omega (arith, high, less) in rw same (given names bytes k id e).0

-- The id of a field.

above : (n k : ℕ) → k < n → (n == k) ≡ false
above n k h = grind (arith, nat_tests)

pub id_unknown : (names : List (List ℕ)) (bytes : List ℕ) (k : ℕ) → is_object bytes ≡ true → length names ≤ field_id bytes k → allowed_id names bytes k ≡ Err FieldId
unfolding allowed_id field_fault
id_unknown names bytes k is past = rw (is, le-leb (length names) (field_id bytes k) past) refl

pub id_first : (names : List (List ℕ)) (bytes : List ℕ) (k : ℕ) → is_object bytes ≡ true → field_id bytes k < length names → k ≡ 0 → allowed_id names bytes k ≡ Ok (field_id bytes k)
unfolding allowed_id field_fault
id_first names bytes k is known e = rw (is, lt-leb (length names) (field_id bytes k) known, e) refl

before_is : (names : List (List ℕ)) (bytes : List ℕ) (k : ℕ) → 0 < k → is_before (name_at names (field_id bytes (k - 1))) (name_at names (field_id bytes k)) ≡ is_before (field_name names bytes (pred k)) (field_name names bytes k)
unfolding field_name
before_is names bytes zero h = absurd (omega (arith, h))
before_is names bytes (suc k) h = let one : suc k - 1 ≡ k = omega arith in ap (λ (j : ℕ). is_before (name_at names (field_id bytes j)) (name_at names (field_id bytes (suc k)))) one

pub id_on : (names : List (List ℕ)) (bytes : List ℕ) (k : ℕ) → is_object bytes ≡ true → field_id bytes k < length names → 0 < k → is_before (name_at names (field_id bytes (k - 1))) (name_at names (field_id bytes k)) ≡ true → allowed_id names bytes k ≡ Ok (field_id bytes k)
unfolding allowed_id field_fault
id_on names bytes k is known later rises =
    rw (is, lt-leb (length names) (field_id bytes k) known, above k 0 later, sym (before_is names bytes k later) ∙ rises) refl

pub id_back : (names : List (List ℕ)) (bytes : List ℕ) (k : ℕ) → is_object bytes ≡ true → field_id bytes k < length names → 0 < k → is_before (name_at names (field_id bytes (k - 1))) (name_at names (field_id bytes k)) ≡ false → allowed_id names bytes k ≡ Err FieldOrder
unfolding allowed_id field_fault
id_back names bytes k is known later rises =
    rw (is, lt-leb (length names) (field_id bytes k) known, above k 0 later, sym (before_is names bytes k later) ∙ rises) refl

-- The kinds of value, by basic type.

pub value_empty : (names : List (List ℕ)) (room : ℕ) (bytes : List ℕ) → (length bytes == 0) ≡ true → value_within names room bytes ≡ Err ValueShort
unfolding value_within value_of
value_empty names zero bytes e = rw e refl
value_empty names (suc room) bytes e = rw e refl

there : (bytes : List ℕ) → 0 < length bytes → (length bytes == 0) ≡ false
there bytes some = grind (arith, nat_tests)

pub value_primitive : (names : List (List ℕ)) (room : ℕ) (bytes : List ℕ) → 0 < length bytes → basic_type bytes ≡ 0 → value_within names room bytes ≡ primitive bytes
unfolding value_within value_of by_basic_type
value_primitive names zero bytes some e = rw (there bytes some, e) refl
value_primitive names (suc room) bytes some e = rw (there bytes some, e) refl

pub value_short_string : (names : List (List ℕ)) (room : ℕ) (bytes : List ℕ) → 0 < length bytes → basic_type bytes ≡ 1 → value_within names room bytes ≡ short_string bytes
unfolding value_within value_of by_basic_type
value_short_string names zero bytes some e = rw (there bytes some, e) refl
value_short_string names (suc room) bytes some e = rw (there bytes some, e) refl

pub value_too_deep : (names : List (List ℕ)) (room : ℕ) (bytes : List ℕ) → 0 < length bytes → 2 ≤ basic_type bytes → room ≡ 0 → value_within names room bytes ≡ Err ValueTooDeep
unfolding value_within value_of by_basic_type unread_kind
value_too_deep names zero bytes some more e = rw (there bytes some, above (basic_type bytes) 0 (omega (arith, more)), above (basic_type bytes) 1 (omega (arith, more))) refl
value_too_deep names (suc room) bytes some more e = absurd (omega (arith, e))

pub value_inside : (names : List (List ℕ)) (room : ℕ) (bytes : List ℕ) → 0 < length bytes → 2 ≤ basic_type bytes → 0 < room → value_within names room bytes ≡ container names (value_within names (room - 1)) bytes
unfolding value_within value_of by_basic_type
value_inside names zero bytes some more h = absurd (omega (arith, h))
value_inside names (suc room) bytes some more h =
    let one : suc room - 1 ≡ room = omega arith in
    rw (there bytes some, above (basic_type bytes) 0 (omega (arith, more)), above (basic_type bytes) 1 (omega (arith, more)), one) refl
