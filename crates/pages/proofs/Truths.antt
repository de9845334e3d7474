-- The values of entries, written.
use Rattle.std.proofs.Common.{◌≡◌, ◌∙◌, refl, ap, ℕ, ◌+◌, ◌/◌, List, [], ◌∷◌, ◌++◌, length, map, Option, None, Some}
use Rattle.std.specs.List.{All, AllByRecursion, flat_map}
use Rattle.std.proofs.lemmas.List.{length-map}
use Rattle.std.proofs.lemmas.List.Elements.{All-from_recursion}
use Rattle.vs_bytes.specs.PackedNumbers.{unpacked, packed}
use Rattle.vs_bytes.specs.declared.leaf_columns.Cell.{Cell}
use Rattle.vs_bytes.specs.declared.leaf_columns.Cell.TheVariants as cell
use Rattle.vs_bytes.specs.declared.leaf_columns.Entry.{Entry}
use Rattle.vs_bytes.specs.declared.leaf_columns.Phys.{Phys}
use Rattle.plain_values.specs.Written.{HoldsTruth, bit, cell_written, booleans_written}
use Rattle.pages.specs.Entries.{values, with_value}
use Rattle.pages.specs.Written.{as_truth, value_written}

one_truth : (c : Cell) → HoldsTruth (as_truth c)
one_truth (cell.Bool truth) = tt
one_truth (cell.Num n) = tt
one_truth (cell.Bytes bytes) = tt

each_truth : (cs : List Cell) → AllByRecursion HoldsTruth (map as_truth cs)
each_truth [] = tt
each_truth (c ∷ cs) = (one_truth c, each_truth cs)

pub truths_are : (cs : List Cell) → All HoldsTruth (map as_truth cs)
truths_are cs = All-from_recursion HoldsTruth (map as_truth cs) (each_truth cs)

same_bit : (c : Cell) → bit (as_truth c) ≡ bit c
same_bit (cell.Bool truth) = refl
same_bit (cell.Num n) = refl
same_bit (cell.Bytes bytes) = refl

same_bits : (cs : List Cell) → map bit (map as_truth cs) ≡ map bit cs
same_bits [] = refl
same_bits (c ∷ cs) = ap (λ (n : ℕ). n ∷ map bit (map as_truth cs)) (same_bit c) ∙ ap (λ (ns : List ℕ). bit c ∷ ns) (same_bits cs)

pub truths_written : (cs : List Cell) → booleans_written (map as_truth cs) ≡ booleans_written cs
unfolding booleans_written
truths_written cs =
    ap (λ (k : ℕ). unpacked 8 ((k + 7) / 8) (packed 1 (map bit (map as_truth cs)))) (length-map cs as_truth)
    ∙ ap (λ (ns : List ℕ). unpacked 8 ((length cs + 7) / 8) (packed 1 ns)) (same_bits cs)

one_value : (type : Phys) (value : Option Cell) (cs : List Cell) → value_written type value ++ flat_map (cell_written type) cs ≡ flat_map (cell_written type) (with_value value cs)
one_value type None cs = refl
one_value type (Some c) cs = refl

pub cells_written : (type : Phys) (entries : List Entry) → flat_map (λ e. value_written type e.value) entries ≡ flat_map (cell_written type) (values entries)
cells_written type [] = refl
cells_written type (e ∷ es) =
    ap (λ (bytes : List ℕ). value_written type e.value ++ bytes) (cells_written type es) ∙ one_value type e.value (values es)
