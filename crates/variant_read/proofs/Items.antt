-- The items of an object or array that was judged: each one stands at its offset, and means the item of that place.
use Rattle.std.proofs.Common.{◌≡◌, ◌∙◌, refl, sym, ap, subst, ℕ, zero, suc, ◌+◌, ◌<◌, ◌≤◌, List, [], ◌∷◌, length, drop, get_or, Bool, true, false, cond, Option, None, Some, Result, Ok, Err, arith}
use Rattle.std.specs.Prelude.{slice_get, nat_lt, is_ok}
use Rattle.std.proofs.lemmas.Bool.Decides.{nat_tests}
use Rattle.json_tree.specs.Json.{Json}
use Rattle.vs_bytes.specs.Outcome.{◌>>=◌}
use Rattle.vs_bytes.specs.declared.rule.Rule.{Rule}
use Rattle.vs_bytes.specs.declared.rule.Rule.TheVariants.{Offsets}
use Rattle.variant_read.specs.Layout.{count, offset, region}
use Rattle.variant_read.specs.Primitives.{Kind, Meaning}
use Rattle.variant_read.specs.Meaning.{field_fault, entries_from, entries, unless_fault, items_at, value_within, json_in}
use Rattle.variant_read.specs.Items.{items_in, or_none, items_held, item_bytes}

-- the first of some items
record First (value : Kind) (area : List ℕ) (used : ℕ) (entry : Option Rule × ℕ) (others : List (Option Rule × ℕ)) (items : List Json) : Type 0 where
  allowed : entry.0 ≡ None
  low : entry.1 ≤ length area
  item : Json × ℕ
  is : value (drop entry.1 area) ≡ Ok item
  rest : List Json
  on : items_at value area (used + item.1) others ≡ Ok rest
  all : items ≡ item.0 ∷ rest

first : (value : Kind) (area : List ℕ) (used : ℕ) (entry : Option Rule × ℕ) (others : List (Option Rule × ℕ)) (items : List Json) → items_at value area used (entry ∷ others) ≡ Ok items → First value area used entry others items
unfolding items_at
first value area used entry others items h = by_fault entry.0 refl h
  where
    by_rest : (item : Json × ℕ) → entry.0 ≡ None → entry.1 ≤ length area → value (drop entry.1 area) ≡ Ok item → (r : Result (List Json) Rule) → items_at value area (used + item.1) others ≡ r → (r >>= λ rest. Ok (item.0 ∷ rest)) ≡ Ok items → First value area used entry others items
    by_rest item allowed low is (Err rule) on e = absurd (cc)
    by_rest item allowed low is (Ok rest) on e =
        let all : item.0 ∷ rest ≡ items = cc in
        record { allowed = allowed; low = low; item = item; is = is; rest = rest; on = on; all = sym all }

    by_sum : (item : Json × ℕ) → entry.0 ≡ None → entry.1 ≤ length area → value (drop entry.1 area) ≡ Ok item → (b : Bool) → cond b (Err Offsets) (items_at value area (used + item.1) others >>= λ rest. Ok (item.0 ∷ rest)) ≡ Ok items → First value area used entry others items
    by_sum item allowed low is true e = absurd (cc)
    by_sum item allowed low is false e = by_rest item allowed low is (items_at value area (used + item.1) others) refl e

    by_value : entry.0 ≡ None → entry.1 ≤ length area → (r : Meaning) → value (drop entry.1 area) ≡ r → (r >>= λ item. cond (nat_lt (length area) (used + item.1)) (Err Offsets) (items_at value area (used + item.1) others >>= λ rest. Ok (item.0 ∷ rest))) ≡ Ok items → First value area used entry others items
    by_value allowed low (Err rule) is e = absurd (cc)
    by_value allowed low (Ok item) is e = by_sum item allowed low is (nat_lt (length area) (used + item.1)) e

    by_low : entry.0 ≡ None → (b : Bool) → nat_lt (length area) entry.1 ≡ b → cond b (Err Offsets) (value (drop entry.1 area) >>= λ item. cond (nat_lt (length area) (used + item.1)) (Err Offsets) (items_at value area (used + item.1) others >>= λ rest. Ok (item.0 ∷ rest))) ≡ Ok items → First value area used entry others items
    by_low allowed true test e = absurd (cc)
    by_low allowed false test e = by_value allowed (grind (arith, nat_tests)) (value (drop entry.1 area)) refl e

    by_fault : (f : Option Rule) → entry.0 ≡ f → (unless_fault f >>= λ _. cond (nat_lt (length area) entry.1) (Err Offsets) (value (drop entry.1 area) >>= λ item. cond (nat_lt (length area) (used + item.1)) (Err Offsets) (items_at value area (used + item.1) others >>= λ rest. Ok (item.0 ∷ rest)))) ≡ Ok items → First value area used entry others items
    by_fault (Some rule) is e = absurd (cc)
    by_fault None is e = by_low is (nat_lt (length area) entry.1) refl e

-- a place of the list of items
record Nth (value : Kind) (area : List ℕ) (entry : Option Rule × ℕ) (items : List Json) (k : ℕ) : Type 0 where
  allowed : entry.0 ≡ None
  low : entry.1 ≤ length area
  item : Json × ℕ
  is : value (drop entry.1 area) ≡ Ok item
  listed : slice_get items k ≡ Some item.0

nth : (value : Kind) (area : List ℕ) (used : ℕ) (es : List (Option Rule × ℕ)) (items : List Json) (k : ℕ) (d : Option Rule × ℕ) → items_at value area used es ≡ Ok items → k < length es → Nth value area (get_or es k d) items k
nth value area used [] items k d h inside = absurd (omega (arith, inside))
nth value area used (entry ∷ es) items zero d h inside =
    let f = first value area used entry es items h in
    record { allowed = f.allowed; low = f.low; item = f.item; is = f.is; listed = ap (λ (xs : List Json). slice_get xs 0) f.all }
nth value area used (entry ∷ es) items (suc k) d h inside =
    let f = first value area used entry es items h in
    let n = nth value area (used + f.item.1) es f.rest k d f.on (omega (arith, inside)) in
    record { allowed = n.allowed; low = n.low; item = n.item; is = n.is; listed = ap (λ (xs : List Json). slice_get xs (suc k)) f.all ∙ n.listed }

items_len : (value : Kind) (area : List ℕ) (used : ℕ) (es : List (Option Rule × ℕ)) (items : List Json) → items_at value area used es ≡ Ok items → length items ≡ length es
unfolding items_at
items_len value area used [] items h = let e : [] ≡ items = cc in rw (sym e) refl
items_len value area used (entry ∷ es) items h =
    let f = first value area used entry es items h in
    ap length f.all ∙ (ap suc (items_len value area (used + f.item.1) es f.rest f.on))

-- The entries.

entries_len : (names : List (List ℕ)) (bytes : List ℕ) (k n : ℕ) → length (entries_from names bytes k n) ≡ n
unfolding entries_from
entries_len names bytes k zero = refl
entries_len names bytes k (suc n) = ap suc (entries_len names bytes (suc k) n)

entry_at : (names : List (List ℕ)) (bytes : List ℕ) (i n k : ℕ) (d : Option Rule × ℕ) → k < n → get_or (entries_from names bytes i n) k d ≡ (field_fault names bytes (i + k), offset bytes (i + k))
unfolding entries_from
entry_at names bytes i zero k d h = absurd (omega (arith, h))
entry_at names bytes i (suc n) zero d h = let e : i + zero ≡ i = omega arith in rw e refl
entry_at names bytes i (suc n) (suc k) d h =
    let e : i + suc k ≡ suc i + k = omega arith in
    rw e (entry_at names bytes (suc i) n k d (omega (arith, h)))

-- Item k of an object or array.

held : (names : List (List ℕ)) (room : ℕ) (bytes : List ℕ) → is_ok (items_in names room bytes) ≡ true → items_in names room bytes ≡ Ok (items_held names room bytes)
unfolding items_held
held names room bytes h = by (items_in names room bytes) h
  where
    by : (r : Result (List Json) Rule) → is_ok r ≡ true → r ≡ Ok (or_none r)
    by (Ok items) e = refl
    by (Err rule) e = absurd (cc)

placed : (names : List (List ℕ)) (room : ℕ) (bytes : List ℕ) (k : ℕ) → is_ok (items_in names room bytes) ≡ true → k < count bytes → Nth (value_within names room) (region bytes) (field_fault names bytes k, offset bytes k) (items_held names room bytes) k
unfolding items_in entries
placed names room bytes k ok inside =
    let d : Option Rule × ℕ = (None, 0) in
    let len = entries_len names bytes 0 (count bytes) in
    let n = nth (value_within names room) (region bytes) 0 (entries_from names bytes 0 (count bytes)) (items_held names room bytes) k d (held names room bytes ok) (omega (arith, len, inside)) in
    let start : 0 + k ≡ k = omega arith in
    let e : get_or (entries_from names bytes 0 (count bytes)) k d ≡ (field_fault names bytes k, offset bytes k) = entry_at names bytes 0 (count bytes) k d inside ∙ ap (λ (i : ℕ). (field_fault names bytes i, offset bytes i)) start in
    subst (λ (entry : Option Rule × ℕ). Nth (value_within names room) (region bytes) entry (items_held names room bytes) k) e n

pub held_len : (names : List (List ℕ)) (room : ℕ) (bytes : List ℕ) → is_ok (items_in names room bytes) ≡ true → length (items_held names room bytes) ≡ count bytes
unfolding items_in entries
held_len names room bytes ok =
    items_len (value_within names room) (region bytes) 0 (entries_from names bytes 0 (count bytes)) (items_held names room bytes) (held names room bytes ok)
    ∙ entries_len names bytes 0 (count bytes)

pub item_allowed : (names : List (List ℕ)) (room : ℕ) (bytes : List ℕ) (k : ℕ) → is_ok (items_in names room bytes) ≡ true → k < count bytes → field_fault names bytes k ≡ None
item_allowed names room bytes k ok inside = (placed names room bytes k ok inside).allowed

pub item_within : (names : List (List ℕ)) (room : ℕ) (bytes : List ℕ) (k : ℕ) → is_ok (items_in names room bytes) ≡ true → k < count bytes → offset bytes k ≤ length (region bytes)
item_within names room bytes k ok inside = (placed names room bytes k ok inside).low

pub item_ok : (names : List (List ℕ)) (room : ℕ) (bytes : List ℕ) (k : ℕ) → is_ok (items_in names room bytes) ≡ true → k < count bytes → is_ok (value_within names room (item_bytes bytes k)) ≡ true
unfolding item_bytes
item_ok names room bytes k ok inside = let n = placed names room bytes k ok inside in rw n.is refl

pub item_listed : (names : List (List ℕ)) (room : ℕ) (bytes : List ℕ) (k : ℕ) (j : Json) → is_ok (items_in names room bytes) ≡ true → k < count bytes → json_in (value_within names room (item_bytes bytes k)) ≡ Ok j → slice_get (items_held names room bytes) k ≡ Some j
unfolding item_bytes
item_listed names room bytes k j ok inside h =
    let n = placed names room bytes k ok inside in
    let e : Ok n.item.0 ≡ Ok j = sym (ap json_in n.is) ∙ h in
    let same : n.item.0 ≡ j = cc in
    n.listed ∙ ap (λ (x : Json). Some x) same
