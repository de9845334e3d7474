-- Bodies of pages, worked out by hand.
use Rattle.std.proofs.Common.{◌≡◌, refl, pos, [], ◌∷◌, Some, Ok, Err}
use Rattle.std.specs.Int.Count.{count_leading_zeros}
use Rattle.exact_num.specs.Unscaled.{half, signed_number}
use Rattle.vs_bytes.specs.declared.leaf_columns.Cell.TheVariants as cell
use Rattle.vs_bytes.specs.declared.leaf_columns.Leaf.{Leaf}
use Rattle.vs_bytes.specs.declared.leaf_columns.Phys.TheVariants as phys
use Rattle.vs_bytes.specs.declared.leaf_columns.PrimKind.TheVariants as prim
use Rattle.vs_bytes.specs.declared.rule.Rule.TheVariants.{RunShort, LevelRange}
use Rattle.hybrid_levels.specs.Hybrid.{header, part_header, front_part}
use Rattle.plain_values.specs.Plain.{integer}
use Rattle.pages.specs.Bodies.{entry, data_body}
use Rattle.pages.specs.Levels.{prefixed, stored, levels_of}

-- a column of optional INT64 values whose definition levels reach 3
abbrev integers : Leaf
integers = record { rep = 0; def = 3; phys = phys.Int64; prim = prim.Int64 }

-- 3 bytes of definition levels: one group, in which the first level is 3. Then the value 9
one_value : data_body integers 1 (0x03 ∷ 0x00 ∷ 0x00 ∷ 0x00 ∷ 0x03 ∷ 0x03 ∷ 0x00 ∷ 0x09 ∷ 0x00 ∷ 0x00 ∷ 0x00 ∷ 0x00 ∷ 0x00 ∷ 0x00 ∷ 0x00 ∷ []) ≡ Ok (entry 0 3 (Some (cell.Num (pos 9))) ∷ [])
unfolding data_body levels_of prefixed stored front_part part_header header integer half signed_number count_leading_zeros
one_value = refl

-- a page without entries has the prefix of its definition levels
no_prefix : data_body integers 0 [] ≡ Err RunShort
unfolding data_body levels_of prefixed stored front_part part_header header integer half signed_number count_leading_zeros
no_prefix = refl

-- a level of a wider hybrid, above the maximum of 2
abbrev narrower : Leaf
narrower = record { rep = 0; def = 2; phys = phys.Int64; prim = prim.Int64 }

level_above : data_body narrower 1 (0x03 ∷ 0x00 ∷ 0x00 ∷ 0x00 ∷ 0x03 ∷ 0x03 ∷ 0x00 ∷ []) ≡ Err LevelRange
unfolding data_body levels_of prefixed stored front_part part_header header integer half signed_number count_leading_zeros
level_above = refl
