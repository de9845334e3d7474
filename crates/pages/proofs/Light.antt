-- Entries that weigh little are few, and take few bytes.
use Rattle.std.proofs.Common.{◌≡◌, ℕ, ◌*◌, ◌+◌, ◌/◌, ◌^◌, ◌<◌, ◌≤◌, ◌==◌, Bool, true, false, cond, List, [], ◌∷◌, ◌++◌, length, map, Option, None, Some, arith}
use Rattle.std.specs.List.{flat_map, sum_by}
use Rattle.std.proofs.lemmas.List.{length-append, length-map}
use Rattle.std.proofs.lemmas.List.Sums.{sum_by-cons}
use Rattle.byteorder.specs.Numbers.{length-bytes_low_first}
use Rattle.vs_bytes.specs.Numbers.{number_bytes}
use Rattle.vs_bytes.specs.PackedNumbers.{packed}
use Rattle.vs_bytes.proofs.PackedNumbers.{unpacked_len}
use Rattle.vs_bytes.specs.declared.leaf_columns.Cell.{Cell}
use Rattle.vs_bytes.specs.declared.leaf_columns.Entry.{Entry}
use Rattle.vs_bytes.specs.declared.leaf_columns.Leaf.{Leaf}
use Rattle.vs_bytes.specs.declared.leaf_columns.Phys.{Phys}
use Rattle.vs_bytes.specs.declared.leaf_columns.Phys.TheVariants as phys
use Rattle.hybrid_levels.specs.Written.{encoded}
use Rattle.hybrid_levels.proofs.Sizes.{encoded_len}
use Rattle.plain_values.specs.Written.{bit, cell_written, booleans_written, plain_written}
use Rattle.pages.specs.Entries.{rep_levels, def_levels, values, with_value}
use Rattle.pages.specs.Levels.{level_width}
use Rattle.pages.specs.Written.{prefix_written, levels_written, body_written, value_weight, weight, weights}

one_size : (bytes : Cell → List ℕ) (weigh : Option Cell → ℕ) → ((c : Cell) → length (bytes c) ≤ weigh (Some c)) → (value : Option Cell) (cells : List Cell) → length (flat_map bytes (with_value value cells)) ≤ weigh value + length (flat_map bytes cells)
one_size bytes weigh each None cells = omega arith
one_size bytes weigh each (Some c) cells =
    let parts = length-append (bytes c) (flat_map bytes cells) in
    let own = each c in
    omega (arith, parts, own)

sizes : (bytes : Cell → List ℕ) (weigh : Option Cell → ℕ) → ((c : Cell) → length (bytes c) ≤ weigh (Some c)) → (entries : List Entry) →
    4 * length entries + length (flat_map bytes (values entries)) ≤ sum_by (λ e. 4 + weigh e.value) entries
sizes bytes weigh each [] = omega arith
sizes bytes weigh each (e ∷ es) =
    let rest = sizes bytes weigh each es in
    let own = one_size bytes weigh each e.value (values es) in
    let sum = sum_by-cons (λ (e : Entry). 4 + weigh e.value) e es in
    omega (arith, rest, own, sum)

one_more : (value : Option Cell) (cells : List Cell) → length (with_value value cells) ≤ value_weight phys.Boolean value + length cells
one_more None cells = omega arith
one_more (Some c) cells = omega arith

truth_sizes : (entries : List Entry) → 4 * length entries + length (values entries) ≤ weights phys.Boolean entries
truth_sizes [] = omega arith
truth_sizes (e ∷ es) =
    let rest = truth_sizes es in
    let own = one_more e.value (values es) in
    let sum = sum_by-cons (weight phys.Boolean) e es in
    omega (arith, rest, own, sum)

truths_size : (cells : List Cell) → length (booleans_written cells) ≡ (length cells + 7) / 8
unfolding booleans_written
truths_size cells = unpacked_len 8 ((length cells + 7) / 8) (packed 1 (map bit cells))

values_size : (type : Phys) (entries : List Entry) → 4 * length entries + length (plain_written type (values entries)) ≤ weights type entries
values_size phys.Boolean es = let all = truth_sizes es in let own = truths_size (values es) in omega (arith, all, own)
values_size phys.Int32 es = sizes (cell_written phys.Int32) (value_weight phys.Int32) (λ c. omega arith) es
values_size phys.Int64 es = sizes (cell_written phys.Int64) (value_weight phys.Int64) (λ c. omega arith) es
values_size phys.Float es = sizes (cell_written phys.Float) (value_weight phys.Float) (λ c. omega arith) es
values_size phys.Double es = sizes (cell_written phys.Double) (value_weight phys.Double) (λ c. omega arith) es
values_size phys.ByteArray es = sizes (cell_written phys.ByteArray) (value_weight phys.ByteArray) (λ c. omega arith) es
values_size (phys.Fixed size) es = sizes (cell_written (phys.Fixed size)) (value_weight (phys.Fixed size)) (λ c. omega arith) es
values_size phys.Other es = sizes (cell_written phys.Other) (value_weight phys.Other) (λ c. omega arith) es

levels_size : (maximum : ℕ) (levels : List ℕ) → 8 * length (levels_written maximum levels) ≤ 17 * length levels + 151
unfolding levels_written prefix_written
levels_size maximum levels = by (maximum == 0)
  where
    by : (b : Bool) → 8 * length (cond b [] (number_bytes 4 (length (encoded (level_width maximum) levels)) ++ encoded (level_width maximum) levels)) ≤ 17 * length levels + 151
    by true = omega arith
    by false =
        let bytes = encoded (level_width maximum) levels in
        let parts = length-append (number_bytes 4 (length bytes)) bytes in
        let own = length-bytes_low_first 0 4 (length bytes) in
        let size = encoded_len (level_width maximum) levels (omega arith) in
        omega (arith, parts, own, size)

pub few_entries : (type : Phys) (entries : List Entry) → weights type entries ≤ 1000000000 → length entries ≤ 1000000000
few_entries type entries light = let all = values_size type entries in omega (arith, all, light)

pub short_body : (leaf : Leaf) (entries : List Entry) → weights leaf.phys entries ≤ 1000000000 → length (body_written leaf entries) < 2 ^ 31
unfolding body_written
short_body leaf entries light =
    let all = values_size leaf.phys entries in
    let reps = levels_size leaf.rep (rep_levels entries) in
    let defs = levels_size leaf.def (def_levels entries) in
    let rep_count = length-map entries (λ (e : Entry). e.rep) in
    let def_count = length-map entries (λ (e : Entry). e.def) in
    let outer = length-append (levels_written leaf.rep (rep_levels entries)) (levels_written leaf.def (def_levels entries) ++ plain_written leaf.phys (values entries)) in
    let inner = length-append (levels_written leaf.def (def_levels entries)) (plain_written leaf.phys (values entries)) in
    omega (arith, all, reps, defs, rep_count, def_count, outer, inner, light)
