-- How many bytes the chunk of some entries has.
use Rattle.std.proofs.Common.{◌≡◌, ◌∙◌, refl, ap, ℕ, zero, suc, ◌+◌, ◌*◌, ◌/◌, ◌%◌, ◌<◌, ◌≤◌, ◌==◌, ◌&&◌, nat_le, nat_lt, Bool, true, false, cond, List, [], ◌∷◌, ◌++◌, length, map, take, drop, length-drop, length-append, ℤ, pos, Option, Some, None, arith}
use Rattle.std.specs.List.{flat_map, sum_by}
use Rattle.std.proofs.lemmas.Bool.{and_parts, leb-true}
use Rattle.std.proofs.lemmas.Bool.Decides.{nat_tests}
use Rattle.std.proofs.lemmas.List.{length-map}
use Rattle.std.proofs.lemmas.List.Sums.{sum_by-cons, sum_by-take-drop}
use Rattle.byteorder.specs.Numbers.{length-bytes_low_first}
use Rattle.vs_bytes.specs.Numbers.{number_bytes}
use Rattle.vs_bytes.specs.PackedNumbers.{packed}
use Rattle.vs_bytes.proofs.PackedNumbers.{unpacked_len}
use Rattle.vs_bytes.specs.declared.leaf_columns.Cell.{Cell}
use Rattle.vs_bytes.specs.declared.leaf_columns.Entry.{Entry}
use Rattle.vs_bytes.specs.declared.leaf_columns.Leaf.{Leaf}
use Rattle.vs_bytes.specs.declared.leaf_columns.Phys.{Phys}
use Rattle.vs_bytes.specs.declared.leaf_columns.Phys.TheVariants as phys
use Rattle.hybrid_levels.specs.Written.{encoded}
use Rattle.hybrid_levels.proofs.Sizes.{encoded_len}
use Rattle.plain_values.specs.Written.{bit, cell_written, booleans_written, plain_written}
use Rattle.thrift_compact.specs.Trees.{Fields, i32_value, struct_value, no_fields, with_field}
use Rattle.thrift_compact.specs.Coded.{digits_of, varint_bytes, signed_bytes, zigzag, field_bytes, coded, fields_coded}
use Rattle.thrift_compact.specs.PageWriting.{data_fields, page_fields}
use Rattle.pages.specs.Entries.{rep_levels, def_levels, values, with_value}
use Rattle.pages.specs.Levels.{level_width}
use Rattle.pages.specs.Written.{prefix_written, levels_written, body_written, header_written, page_written, value_weight, weight, weights}
use Rattle.chunks.specs.PageCuts.{begins_page, later_len, page_len, chunk_written}
use Rattle.chunks.proofs.FirstPage.{first_written, nothing_written, some_entries}
use Rattle.striping_laws.specs.Rows.{min_page_bytes}

-- ---- the header of a page

digits_len : (room n : ℕ) → length (digits_of room n) ≤ room
unfolding digits_of
digits_len zero n = omega arith
digits_len (suc room) n = by (nat_lt n 128) (digits_len room (n / 128))
  where
    by : (b : Bool) → length (digits_of room (n / 128)) ≤ room → length (cond b (n ∷ []) ((n % 128 + 128) ∷ digits_of room (n / 128))) ≤ suc room
    by true h = omega arith
    by false h = omega (arith, h)

signed_len : (z : ℤ) → length (signed_bytes z) ≤ 10
unfolding signed_bytes varint_bytes
signed_len z = digits_len 10 (zigzag z)

near_field : (last id kind : ℕ) → last < id → id ≤ last + 15 → length (field_bytes last id kind) ≡ 1
unfolding field_bytes
near_field last id kind h g = let near : (nat_lt last id && nat_le id (last + 15)) ≡ true = grind (arith, nat_tests) in rw near refl

number_len : (last id : ℕ) (z : ℤ) (fs : Fields) → last < id → id ≤ last + 15 → length (fields_coded last (with_field (pos id) (i32_value z) fs)) ≤ 11 + length (fields_coded id fs)
unfolding coded fields_coded
number_len last id z fs h g =
    omega (arith, near_field last id 5 h g, signed_len z, length-append (field_bytes last id 5) (signed_bytes z ++ fields_coded id fs), length-append (signed_bytes z) (fields_coded id fs))

struct_len : (last id : ℕ) (gs fs : Fields) → last < id → id ≤ last + 15 → length (fields_coded last (with_field (pos id) (struct_value gs) fs)) ≡ 1 + (length (fields_coded 0 gs) + length (fields_coded id fs))
unfolding coded fields_coded
struct_len last id gs fs h g =
    omega (arith, near_field last id 12 h g, length-append (field_bytes last id 12) (fields_coded 0 gs ++ fields_coded id fs), length-append (fields_coded 0 gs) (fields_coded id fs))

stop_len : (last : ℕ) → length (fields_coded last no_fields) ≡ 1
unfolding fields_coded
stop_len last = refl

header_len : (count size : ℕ) → length (header_written count size) ≤ 80
unfolding header_written page_fields data_fields
header_len count size =
    let inner =
    with_field (pos 1) (i32_value (pos count)) (with_field (pos 2) (i32_value (pos 0)) (with_field (pos 3) (i32_value (pos 3)) (with_field (pos 4) (i32_value (pos 3)) no_fields))) in
    omega (
      arith,
      number_len 0 1 (pos 0) (with_field (pos 2) (i32_value (pos size)) (with_field (pos 3) (i32_value (pos size)) (with_field (pos 5) (struct_value inner) no_fields))) (omega arith) (omega arith),
      number_len 1 2 (pos size) (with_field (pos 3) (i32_value (pos size)) (with_field (pos 5) (struct_value inner) no_fields)) (omega arith) (omega arith),
      number_len 2 3 (pos size) (with_field (pos 5) (struct_value inner) no_fields) (omega arith) (omega arith),
      struct_len 3 5 inner no_fields (omega arith) (omega arith),
      stop_len 5,
      number_len 0 1 (pos count) (with_field (pos 2) (i32_value (pos 0)) (with_field (pos 3) (i32_value (pos 3)) (with_field (pos 4) (i32_value (pos 3)) no_fields))) (omega arith) (omega arith),
      number_len 1 2 (pos 0) (with_field (pos 3) (i32_value (pos 3)) (with_field (pos 4) (i32_value (pos 3)) no_fields)) (omega arith) (omega arith),
      number_len 2 3 (pos 3) (with_field (pos 4) (i32_value (pos 3)) no_fields) (omega arith) (omega arith),
      number_len 3 4 (pos 3) no_fields (omega arith) (omega arith),
      stop_len 4,
    )

-- ---- the body of a page

one_size : (bytes : Cell → List ℕ) (weigh : Option Cell → ℕ) → ((c : Cell) → length (bytes c) ≤ weigh (Some c)) → (value : Option Cell) (cells : List Cell) → length (flat_map bytes (with_value value cells)) ≤ weigh value + length (flat_map bytes cells)
one_size bytes weigh each None cells = omega arith
one_size bytes weigh each (Some c) cells = omega (arith, length-append (bytes c) (flat_map bytes cells), each c)

sizes : (bytes : Cell → List ℕ) (weigh : Option Cell → ℕ) → ((c : Cell) → length (bytes c) ≤ weigh (Some c)) → (entries : List Entry) →
    4 * length entries + length (flat_map bytes (values entries)) ≤ sum_by (λ e. 4 + weigh e.value) entries
sizes bytes weigh each [] = omega arith
sizes bytes weigh each (e ∷ es) =
    omega (arith, sizes bytes weigh each es, one_size bytes weigh each e.value (values es), sum_by-cons (λ (e : Entry). 4 + weigh e.value) e es)

one_truth : (value : Option Cell) (cells : List Cell) → length (with_value value cells) ≤ value_weight phys.Boolean value + length cells
one_truth None cells = omega arith
one_truth (Some c) cells = omega arith

truth_sizes : (entries : List Entry) → 4 * length entries + length (values entries) ≤ weights phys.Boolean entries
truth_sizes [] = omega arith
truth_sizes (e ∷ es) = omega (arith, truth_sizes es, one_truth e.value (values es), sum_by-cons (weight phys.Boolean) e es)

truths_len : (cells : List Cell) → length (booleans_written cells) ≡ (length cells + 7) / 8
unfolding booleans_written
truths_len cells = unpacked_len 8 ((length cells + 7) / 8) (packed 1 (map bit cells))

values_len : (type : Phys) (entries : List Entry) → 4 * length entries + length (plain_written type (values entries)) ≤ weights type entries
values_len phys.Boolean es = omega (arith, truth_sizes es, truths_len (values es))
values_len phys.Int32 es = sizes (cell_written phys.Int32) (value_weight phys.Int32) (λ c. omega arith) es
values_len phys.Int64 es = sizes (cell_written phys.Int64) (value_weight phys.Int64) (λ c. omega arith) es
values_len phys.Float es = sizes (cell_written phys.Float) (value_weight phys.Float) (λ c. omega arith) es
values_len phys.Double es = sizes (cell_written phys.Double) (value_weight phys.Double) (λ c. omega arith) es
values_len phys.ByteArray es = sizes (cell_written phys.ByteArray) (value_weight phys.ByteArray) (λ c. omega arith) es
values_len (phys.Fixed size) es = sizes (cell_written (phys.Fixed size)) (value_weight (phys.Fixed size)) (λ c. omega arith) es
values_len phys.Other es = sizes (cell_written phys.Other) (value_weight phys.Other) (λ c. omega arith) es

levels_len : (maximum : ℕ) (levels : List ℕ) → 8 * length (levels_written maximum levels) ≤ 17 * length levels + 151
unfolding levels_written prefix_written
levels_len maximum levels = by (maximum == 0)
  where
    by : (b : Bool) → 8 * length (cond b [] (number_bytes 4 (length (encoded (level_width maximum) levels)) ++ encoded (level_width maximum) levels)) ≤ 17 * length levels + 151
    by true = omega arith
    by false =
        let bytes = encoded (level_width maximum) levels in
        omega (arith, length-append (number_bytes 4 (length bytes)) bytes, length-bytes_low_first 0 4 (length bytes), encoded_len (level_width maximum) levels (omega arith))

body_len : (leaf : Leaf) (entries : List Entry) → 8 * length (body_written leaf entries) ≤ 8 * weights leaf.phys entries + (2 * length entries + 302)
unfolding body_written
body_len leaf entries =
    let reps = levels_written leaf.rep (rep_levels entries) in
    let defs = levels_written leaf.def (def_levels entries) in
    let plain = plain_written leaf.phys (values entries) in
    omega (
      arith,
      values_len leaf.phys entries,
      levels_len leaf.rep (rep_levels entries),
      levels_len leaf.def (def_levels entries),
      length-map entries (λ (e : Entry). e.rep),
      length-map entries (λ (e : Entry). e.def),
      length-append reps (defs ++ plain),
      length-append defs plain,
    )

-- a page: its levels take fewer than 2 bytes an entry above what the entries weigh, the rest 128 bytes at most
page_most : (leaf : Leaf) (entries : List Entry) → 5 * length (page_written leaf entries) ≤ 6 * weights leaf.phys entries + 1024
unfolding page_written
page_most leaf entries =
    let header = header_written (length entries) (length (body_written leaf entries)) in
    omega (arith, header_len (length entries) (length (body_written leaf entries)), body_len leaf entries, values_len leaf.phys entries, length-append header (body_written leaf entries))

full_page_most : (leaf : Leaf) (entries : List Entry) → min_page_bytes ≤ weights leaf.phys entries → 5 * length (page_written leaf entries) ≤ 6 * weights leaf.phys entries
unfolding page_written
full_page_most leaf entries full =
    let header = header_written (length entries) (length (body_written leaf entries)) in
    omega (arith, full, header_len (length entries) (length (body_written leaf entries)), body_len leaf entries, values_len leaf.phys entries, length-append header (body_written leaf entries))

-- ---- a page that others follow has the weight that is asked for

later_full : (type : Phys) (page_bytes held : ℕ) (es : List Entry) (x : Entry) (xs : List Entry) → drop (later_len type page_bytes held es) es ≡ x ∷ xs → page_bytes ≤ held + weights type (take (later_len type page_bytes held es) es)
unfolding later_len
later_full type page_bytes held [] x xs e = absurd cc
later_full type page_bytes held (y ∷ ys) x xs e = by (begins_page page_bytes held y) refl (later_full type page_bytes (held + weight type y) ys x xs) e
  where
    rest : ℕ
    rest = later_len type page_bytes (held + weight type y) ys

    by : (b : Bool) → begins_page page_bytes held y ≡ b → (drop rest ys ≡ x ∷ xs → page_bytes ≤ (held + weight type y) + weights type (take rest ys)) → drop (cond b 0 (suc rest)) (y ∷ ys) ≡ x ∷ xs → page_bytes ≤ held + weights type (take (cond b 0 (suc rest)) (y ∷ ys))
    by true is h f = omega (arith, leb-true page_bytes held (and_parts (y.rep == 0) (nat_le page_bytes held) is).1)
    by false is h f = omega (arith, h f, sum_by-cons (weight type) y (take rest ys))

page_full : (type : Phys) (page_bytes : ℕ) (es : List Entry) (x : Entry) (xs : List Entry) → drop (page_len type page_bytes es) es ≡ x ∷ xs → page_bytes ≤ weights type (take (page_len type page_bytes es) es)
unfolding page_len
page_full type page_bytes [] x xs e = absurd cc
page_full type page_bytes (y ∷ ys) x xs e = omega (arith, later_full type page_bytes (weight type y) ys x xs e, sum_by-cons (weight type) y (take (later_len type page_bytes (weight type y) ys) ys))

-- ---- chunks

module _ (leaf : Leaf) (page_bytes : ℕ) (least : min_page_bytes ≤ page_bytes) where
  chunk_within : (room : ℕ) (es : List Entry) → length es ≤ room → 5 * length (chunk_written leaf page_bytes es) ≤ 6 * weights leaf.phys es + 1024
  chunk_within room [] few = omega (arith, ap length (nothing_written leaf page_bytes))
  chunk_within zero (e ∷ es) few = absurd (omega (arith, few))
  chunk_within (suc room) (e ∷ es) few = by (drop len (e ∷ es)) refl (chunk_within room (drop len (e ∷ es)) (omega (arith, few, length-drop len (e ∷ es), some_entries leaf.phys page_bytes (e ∷ es) (omega arith))))
    where
      len : ℕ
      len = page_len leaf.phys page_bytes (e ∷ es)

      by : (rest : List Entry) → drop len (e ∷ es) ≡ rest → 5 * length (chunk_written leaf page_bytes (drop len (e ∷ es))) ≤ 6 * weights leaf.phys (drop len (e ∷ es)) + 1024 → 5 * length (chunk_written leaf page_bytes (e ∷ es)) ≤ 6 * weights leaf.phys (e ∷ es) + 1024
      by [] last h =
          omega (
            arith,
            page_most leaf (take len (e ∷ es)),
            sum_by-take-drop (weight leaf.phys) (e ∷ es) len,
            ap length (ap (chunk_written leaf page_bytes) last ∙ nothing_written leaf page_bytes),
            ap length (first_written leaf page_bytes (e ∷ es) (omega arith)),
            length-append (page_written leaf (take len (e ∷ es))) (chunk_written leaf page_bytes (drop len (e ∷ es))),
          )
      by (x ∷ xs) more h =
          omega (
            arith,
            h,
            full_page_most leaf (take len (e ∷ es)) (omega (arith, least, page_full leaf.phys page_bytes (e ∷ es) x xs more)),
            sum_by-take-drop (weight leaf.phys) (e ∷ es) len,
            ap length (first_written leaf page_bytes (e ∷ es) (omega arith)),
            length-append (page_written leaf (take len (e ∷ es))) (chunk_written leaf page_bytes (drop len (e ∷ es))),
          )

  pub chunk_most : (es : List Entry) → 5 * length (chunk_written leaf page_bytes es) ≤ 6 * weights leaf.phys es + 1024
  chunk_most es = chunk_within (length es) es (omega arith)
