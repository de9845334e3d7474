-- Levels of entries fit their width.
use Rattle.std.proofs.Common.{ℕ, ◌^◌, ◌<◌, ◌≤◌, List, length, slice_index, arith}
use Rattle.std.specs.List.{All}
use Rattle.std.proofs.lemmas.List.{length-map}
use Rattle.std.proofs.lemmas.List.Elements.{recursion_from_All}
use Rattle.vs_bytes.specs.declared.leaf_columns.Entry.{Entry}
use Rattle.vs_bytes.specs.declared.leaf_columns.Leaf.{Leaf}
use Rattle.hybrid_levels.specs.Written.{encoded}
use Rattle.hybrid_levels.proofs.Sizes.{encoded_len}
use Rattle.pages.specs.Entries.{rep_levels, def_levels, IsEntry}
use Rattle.pages.specs.Levels.{level_width}
use Rattle.pages.proofs.EntriesBack.{reps_within, defs_within}
use Rattle.pages.proofs.LevelsBack.{each_fits}

pub reps_fit : (leaf : Leaf) (entries : List Entry) → leaf.rep < 65536 → All (IsEntry leaf) entries → (k : ℕ) → slice_index (rep_levels entries) k < 2 ^ level_width leaf.rep
reps_fit leaf entries small are = each_fits leaf.rep (rep_levels entries) small (reps_within leaf entries (recursion_from_All (IsEntry leaf) entries are))

pub reps_few : (entries : List Entry) → length entries ≤ 1000000000 → length (rep_levels entries) < 2 ^ 31
reps_few entries few = let count = length-map entries (λ (e : Entry). e.rep) in omega (arith, count, few)

pub reps_short : (leaf : Leaf) (entries : List Entry) → length entries ≤ 1000000000 → length (encoded (level_width leaf.rep) (rep_levels entries)) < 256 ^ 4
reps_short leaf entries few =
    let count = length-map entries (λ (e : Entry). e.rep) in
    let size = encoded_len (level_width leaf.rep) (rep_levels entries) (omega arith) in
    omega (arith, count, size, few)

pub defs_fit : (leaf : Leaf) (entries : List Entry) → leaf.def < 65536 → All (IsEntry leaf) entries → (k : ℕ) → slice_index (def_levels entries) k < 2 ^ level_width leaf.def
defs_fit leaf entries small are = each_fits leaf.def (def_levels entries) small (defs_within leaf entries (recursion_from_All (IsEntry leaf) entries are))

pub defs_few : (entries : List Entry) → length entries ≤ 1000000000 → length (def_levels entries) < 2 ^ 31
defs_few entries few = let count = length-map entries (λ (e : Entry). e.def) in omega (arith, count, few)

pub defs_short : (leaf : Leaf) (entries : List Entry) → length entries ≤ 1000000000 → length (encoded (level_width leaf.def) (def_levels entries)) < 256 ^ 4
defs_short leaf entries few =
    let count = length-map entries (λ (e : Entry). e.def) in
    let size = encoded_len (level_width leaf.def) (def_levels entries) (omega arith) in
    omega (arith, count, size, few)
