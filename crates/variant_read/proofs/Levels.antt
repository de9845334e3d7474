-- One level of a value that was judged.
use Rattle.std.proofs.Common.{◌≡◌, ◌∙◌, refl, sym, ap, ℕ, zero, suc, ◌-◌, ◌<◌, ◌≤◌, List, length, Bool, true, false, cond, Result, Ok, Err, arith}
use Rattle.std.specs.Prelude.{nat_lt, ◌==◌, is_ok}
use Rattle.std.proofs.lemmas.Bool.Decides.{nat_tests}
use Rattle.json_tree.specs.Json.{Json}
use Rattle.vs_bytes.specs.Outcome.{◌>>=◌}
use Rattle.vs_bytes.specs.declared.rule.Rule.{Rule}
use Rattle.vs_bytes.specs.declared.rule.Rule.TheVariants.{ValueShort, ValueTooDeep}
use Rattle.variant_read.specs.Layout.{basic_type, is_object, container_size}
use Rattle.variant_read.specs.Primitives.{Meaning, Kind, unread_kind, primitive, short_string}
use Rattle.variant_read.specs.Meaning.{with_items, container, by_basic_type, value_of, value_within, json_in}
use Rattle.variant_read.specs.Items.{items_in, or_none, items_held, members_held}
use Rattle.variant_read.specs.Trees.{array_of, object_of}
use Rattle.variant_read.proofs.Judged.{passed}

inside : List (List ℕ) → ℕ → Kind
inside names zero = unread_kind ValueTooDeep
inside names (suc room) = container names (value_within names room)

level : (names : List (List ℕ)) (room : ℕ) (bytes : List ℕ) → value_within names room bytes ≡ value_of (inside names room) bytes
unfolding value_within inside
level names zero bytes = refl
level names (suc room) bytes = refl

-- where a value is, there is a byte, and its kind says what it means
kind_judged : (names : List (List ℕ)) (room : ℕ) (bytes : List ℕ) → is_ok (value_within names room bytes) ≡ true → (0 < length bytes) × (value_within names room bytes ≡ by_basic_type (inside names room) (basic_type bytes) bytes)
unfolding value_of
kind_judged names room bytes h = by (length bytes == 0) refl (level names room bytes) (ap is_ok (sym (level names room bytes)) ∙ h)
  where
    by : (b : Bool) → (length bytes == 0) ≡ b → value_within names room bytes ≡ cond b (Err ValueShort) (by_basic_type (inside names room) (basic_type bytes) bytes) → is_ok (cond b (Err ValueShort) (by_basic_type (inside names room) (basic_type bytes) bytes)) ≡ true → (0 < length bytes) × (value_within names room bytes ≡ by_basic_type (inside names room) (basic_type bytes) bytes)
    by true test e ok = absurd (cc)
    by false test e ok = (grind (arith, nat_tests), e)

pub some_byte : (names : List (List ℕ)) (room : ℕ) (bytes : List ℕ) → is_ok (value_within names room bytes) ≡ true → 0 < length bytes
some_byte names room bytes h = (kind_judged names room bytes h).0

pub level_primitive : (names : List (List ℕ)) (room : ℕ) (bytes : List ℕ) → is_ok (value_within names room bytes) ≡ true → basic_type bytes ≡ 0 → value_within names room bytes ≡ primitive bytes
unfolding by_basic_type
level_primitive names room bytes h basic = (kind_judged names room bytes h).1 ∙ rw basic refl

pub level_short : (names : List (List ℕ)) (room : ℕ) (bytes : List ℕ) → is_ok (value_within names room bytes) ≡ true → basic_type bytes ≡ 1 → value_within names room bytes ≡ short_string bytes
unfolding by_basic_type
level_short names room bytes h basic = (kind_judged names room bytes h).1 ∙ rw basic refl

level_inside : (names : List (List ℕ)) (room : ℕ) (bytes : List ℕ) → is_ok (value_within names room bytes) ≡ true → 2 ≤ basic_type bytes → value_within names room bytes ≡ inside names room bytes
unfolding by_basic_type
level_inside names room bytes h basic =
    let zero_not : (basic_type bytes == 0) ≡ false = grind (arith, nat_tests) in
    let one_not : (basic_type bytes == 1) ≡ false = grind (arith, nat_tests) in
    (kind_judged names room bytes h).1 ∙ rw (zero_not, one_not) refl

level_deep : (names : List (List ℕ)) (room : ℕ) (bytes : List ℕ) → is_ok (inside names room bytes) ≡ true → (1 ≤ room) × (inside names room bytes ≡ container names (value_within names (room - 1)) bytes)
unfolding inside unread_kind
level_deep names zero bytes h = absurd (cc)
level_deep names (suc room) bytes h = let e : suc room - 1 ≡ room = omega arith in (omega arith, rw e refl)

pub level_room : (names : List (List ℕ)) (room : ℕ) (bytes : List ℕ) → is_ok (value_within names room bytes) ≡ true → 2 ≤ basic_type bytes → 1 ≤ room
level_room names room bytes h basic = (level_deep names room bytes (ap is_ok (sym (level_inside names room bytes h basic)) ∙ h)).0

pub level_container : (names : List (List ℕ)) (room : ℕ) (bytes : List ℕ) → is_ok (value_within names room bytes) ≡ true → 2 ≤ basic_type bytes → value_within names room bytes ≡ container names (value_within names (room - 1)) bytes
level_container names room bytes h basic =
    level_inside names room bytes h basic ∙ (level_deep names room bytes (ap is_ok (sym (level_inside names room bytes h basic)) ∙ h)).1

-- An object or array.

record Held (names : List (List ℕ)) (room : ℕ) (bytes : List ℕ) : Type 0 where
  fits : container_size bytes ≤ length bytes
  items : is_ok (items_in names room bytes) ≡ true
  means : json_in (container names (value_within names room) bytes) ≡ Ok (with_items names bytes (items_held names room bytes))

abbrev whole : List (List ℕ) → List ℕ → Result (List Json) Rule → Meaning
whole names bytes items = items >>= λ items. Ok (with_items names bytes items, container_size bytes)

items_held_by : (names : List (List ℕ)) (bytes : List ℕ) (items : Result (List Json) Rule) → is_ok (whole names bytes items) ≡ true → (is_ok items ≡ true) × (json_in (whole names bytes items) ≡ Ok (with_items names bytes (or_none items)))
items_held_by names bytes (Ok items) e = (refl, refl)
items_held_by names bytes (Err rule) e = absurd (cc)

container_held : (names : List (List ℕ)) (room : ℕ) (bytes : List ℕ) → is_ok (container names (value_within names room) bytes) ≡ true → Held names room bytes
unfolding container items_in items_held
container_held names room bytes h =
    let test = passed (nat_lt (length bytes) (container_size bytes)) ValueShort (whole names bytes (items_in names room bytes)) h in
    let fits : nat_lt (length bytes) (container_size bytes) ≡ false = test.0 in
    let parts = items_held_by names bytes (items_in names room bytes) test.1 in
    record {
      fits = grind (arith, nat_tests);
      items = parts.0;
      means = rw fits parts.1;
    }

pub container_fits : (names : List (List ℕ)) (room : ℕ) (bytes : List ℕ) → is_ok (container names (value_within names room) bytes) ≡ true → container_size bytes ≤ length bytes
container_fits names room bytes h = (container_held names room bytes h).fits

pub container_items : (names : List (List ℕ)) (room : ℕ) (bytes : List ℕ) → is_ok (container names (value_within names room) bytes) ≡ true → is_ok (items_in names room bytes) ≡ true
container_items names room bytes h = (container_held names room bytes h).items

pub object_means : (names : List (List ℕ)) (room : ℕ) (bytes : List ℕ) → is_ok (container names (value_within names room) bytes) ≡ true → is_object bytes ≡ true → json_in (container names (value_within names room) bytes) ≡ Ok (object_of (members_held names room bytes))
unfolding with_items members_held
object_means names room bytes h object = (container_held names room bytes h).means ∙ rw object refl

pub array_means : (names : List (List ℕ)) (room : ℕ) (bytes : List ℕ) → is_ok (container names (value_within names room) bytes) ≡ true → is_object bytes ≡ false → json_in (container names (value_within names room) bytes) ≡ Ok (array_of (items_held names room bytes))
unfolding with_items
array_means names room bytes h object = (container_held names room bytes h).means ∙ rw object refl
