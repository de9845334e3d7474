-- The bytes of objects and arrays as they are written (VariantEncoding.md, "Value encoding"): the items lie in
-- order without gaps.
use Rattle.std.specs.Prelude.{ℕ, ◌+◌, ◌-◌, ◌*◌, max, nat_lt, Bool, if◌then◌else◌, List, ◌∷◌, ◌++◌, length}
use Rattle.std.specs.List.{concat}
use Rattle.vs_bytes.specs.Numbers.{number_bytes, width_of}
use Rattle.variant_meta.specs.TypeIds.{object_type, array_type}
use Rattle.variant_meta.specs.Written.{numbers, ends_from}

-- counts above this one have 4 bytes
abbrev pub max_small_count : ℕ
max_small_count = 255

unfoldable pub is_large : ℕ → Bool
is_large count = nat_lt max_small_count count

unfoldable pub count_bytes : ℕ → List ℕ
count_bytes count = if is_large count then number_bytes 4 count else number_bytes 1 count

unfoldable pub large_bit : ℕ → ℕ
large_bit count = if is_large count then 1 else 0

-- byte 0. An array has no ids
unfoldable pub head : Bool → ℕ → ℕ → ℕ → ℕ
head is_object offset_size id_size count =
    if is_object then object_type + 4 * ((offset_size - 1) + (4 * (id_size - 1) + 16 * large_bit count))
    else array_type + 4 * ((offset_size - 1) + 4 * large_bit count)

-- an object or array: byte 0, count, ids, offsets, items. `ends` tells where each item ends among all of them. An
-- array has no ids: `ids` is [] and their size 0
unfoldable pub packed : Bool → ℕ → ℕ → List ℕ → List ℕ → List ℕ → List ℕ
packed is_object offset_size id_size ids ends items =
    head is_object offset_size id_size (length ends)
    ∷ (count_bytes (length ends) ++ (numbers id_size ids ++ (numbers offset_size (0 ∷ ends) ++ items)))

-- an object or array of items, with offsets of at least `least` bytes, and as many as the last offset needs
unfoldable pub composed : Bool → ℕ → ℕ → List ℕ → List (List ℕ) → List ℕ
composed is_object least id_size ids items =
    packed is_object (max least (width_of (length (concat items)))) id_size ids (ends_from 0 items) (concat items)
