-- Objects and arrays of items that mean their values.
use Rattle.std.proofs.Common.{◌≡◌, ◌∙◌, ap, ℕ, suc, ◌+◌, ◌*◌, ◌^◌, ◌<◌, ◌≤◌, max, Bool, List, [], ◌∷◌, ◌++◌, length, get_or, None, arith, mul-le-mul_left}
use Rattle.std.specs.List.{AllByRecursion, concat}
use Rattle.json_tree.specs.Json.{Json}
use Rattle.vs_bytes.specs.Numbers.{width_of}
use Rattle.variant_meta.specs.Written.{ends_from}
use Rattle.variant_meta.proofs.Sizes.{width_holds, wider}
use Rattle.variant_read.specs.Layout.{is_object, field_id}
use Rattle.variant_read.specs.Meaning.{field_fault, with_items, container, value_within}
use Rattle.variant_write.specs.Coded.{greatest}
use Rattle.variant_write.specs.Layout.{packed, composed}
use Rattle.variant_laws.proofs.NumberLists.{ends_len, ends_fit}
use Rattle.variant_laws.proofs.Layouts.{Fits, IdSize, object_is, field_id_is, packed_len, packed_more}
use Rattle.variant_laws.proofs.Walks.{Means, AllMean, inside_is, packed_means}

-- the offsets' size
abbrev pub offsets_width : ℕ → List (List ℕ) → ℕ
offsets_width least items = max least (width_of (length (concat items)))

-- what a limit on the whole says of the items
pub items_few : (is : Bool) (w i : ℕ) (ids : List ℕ) (items : List (List ℕ)) → 1 ≤ w → length (packed is w i ids (ends_from 0 items) (concat items)) < 2 ^ 32 → (length items < 2 ^ 32) × (length (concat items) < 2 ^ 32)
items_few is w i ids items least small =
    let len = packed_len is w i ids (ends_from 0 items) (concat items) in
    let many = ends_len 0 items in
    let wide : (length (ends_from 0 items) + 1) * 1 ≤ (length (ends_from 0 items) + 1) * w = mul-le-mul_left (length (ends_from 0 items) + 1) least in
    (omega (arith, len, many, wide, small), omega (arith, len, small))

pub composed_fits : (is : Bool) (least i : ℕ) (ids : List ℕ) (items : List (List ℕ)) → 1 ≤ least → least ≤ 4 → IdSize is i → length ids * i ≡ length items * i → AllByRecursion (λ n. n < 256 ^ i) ids → length items < 2 ^ 32 → length (concat items) < 2 ^ 32 → Fits is (offsets_width least items) i ids (ends_from 0 items)
composed_fits is least i ids items low high size bytes ids_fit few small =
    let width = width_holds (length (concat items)) small in
    let holds = width.0 in
    let one = width.1 in
    let four = width.2 in
    let many = ends_len 0 items in
    record {
      least = omega (arith, low);
      most = omega (arith, high, four);
      id_width = size;
      id_bytes = rw many bytes;
      few = omega (arith, many, few);
      ids_fit = ids_fit;
      ends_fit = ends_fit (offsets_width least items) 0 items (let all = wider (length (concat items)) (width_of (length (concat items))) (offsets_width least items) (omega arith) holds in omega (arith, all));
    }

-- bytes of that kind with these ids
abbrev pub HasParts : Bool → List ℕ → List ℕ → Type 0
HasParts is ids bytes = (is_object bytes ≡ is) × ((k : ℕ) → k < length ids → field_id bytes k ≡ get_or ids k 0)

pub composed_means : (names : List (List ℕ)) (room : ℕ) (is : Bool) (least i : ℕ) (ids : List ℕ) (items : List (List ℕ)) (jsons : List Json) (json : Json) → 1 ≤ least → least ≤ 4 → IdSize is i → length ids * i ≡ length items * i → AllByRecursion (λ n. n < 256 ^ i) ids → length (composed is least i ids items) < 2 ^ 32 → AllMean (value_within names room) items jsons → ((bytes : List ℕ) → HasParts is ids bytes → ((m : ℕ) → m < length items → field_fault names bytes m ≡ None) × (with_items names bytes jsons ≡ json)) → Means (value_within names (suc room)) (composed is least i ids items) json
unfolding composed value_within
composed_means names room is least i ids items jsons json low high size bytes ids_fit small mean whole rest =
    let w = offsets_width least items in
    let es = ends_from 0 items in
    let tail = concat items ++ rest in
    let wide : 1 ≤ w = omega (arith, low) in
    let few = items_few is w i ids items wide small in
    let fits = composed_fits is least i ids items low high size bytes ids_fit few.0 few.1 in
    let parts = whole (packed is w i ids es tail) (object_is is w i ids es tail, λ k h. field_id_is is w i ids es tail k fits h) in
    ap (value_within names (suc room)) (packed_more is w i ids es (concat items) rest)
    ∙ inside_is is w i ids es tail (container names (value_within names room))
    ∙ packed_means names (value_within names room) is w i ids items jsons json rest fits mean parts.0 parts.1

-- The ids.

pub greatest_fits : (w : ℕ) (ns : List ℕ) → greatest ns < 256 ^ w → AllByRecursion (λ n. n < 256 ^ w) ns
greatest_fits w [] h = tt
greatest_fits w (n ∷ ns) h = (omega (arith, h), greatest_fits w ns (omega (arith, h)))
