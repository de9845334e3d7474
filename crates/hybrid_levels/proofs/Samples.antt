-- Numbers as the standard codes them, worked out by hand.
use Rattle.std.proofs.Common.{◌≡◌, refl, [], ◌∷◌, Ok, Err}
use Rattle.vs_bytes.specs.declared.rule.Rule.TheVariants.{RunShort, RunTooLong}
use Rattle.hybrid_levels.specs.Hybrid.{header, part_header, front_part, decoded}
use Rattle.hybrid_levels.specs.Written.{run, group, stretch, piece, piece_count, encoded}

-- 14 01: ten copies of 1
ten_ones : decoded 1 10 (0x14 ∷ 0x01 ∷ []) ≡ Ok (1 ∷ 1 ∷ 1 ∷ 1 ∷ 1 ∷ 1 ∷ 1 ∷ 1 ∷ 1 ∷ 1 ∷ [], 2)
unfolding front_part part_header header
ten_ones = refl

-- 03 88 c6 fa: one group of 8 numbers, 3 bits each
zero_to_seven : decoded 3 8 (0x03 ∷ 0x88 ∷ 0xc6 ∷ 0xfa ∷ []) ≡ Ok (0 ∷ 1 ∷ 2 ∷ 3 ∷ 4 ∷ 5 ∷ 6 ∷ 7 ∷ [], 4)
unfolding front_part part_header header
zero_to_seven = refl

-- the last 5 of 8 numbers fill up the group
three_of_eight : decoded 3 3 (0x03 ∷ 0x88 ∷ 0xc6 ∷ 0xfa ∷ []) ≡ Ok (0 ∷ 1 ∷ 2 ∷ [], 4)
unfolding front_part part_header header
three_of_eight = refl

one_copy_too_many : decoded 1 9 (0x14 ∷ 0x01 ∷ []) ≡ Err RunTooLong
unfolding front_part part_header header
one_copy_too_many = refl

group_cut : decoded 3 8 (0x03 ∷ 0x88 ∷ []) ≡ Err RunShort
unfolding front_part part_header header
group_cut = refl

-- two groups where the first one has all numbers
group_too_many : decoded 1 2 (0x05 ∷ 0xff ∷ 0xff ∷ []) ≡ Err RunTooLong
unfolding front_part part_header header
group_too_many = refl

-- five bytes of a header that say that more follow, and four
header_too_long : decoded 1 1 (0x80 ∷ 0x80 ∷ 0x80 ∷ 0x80 ∷ 0x80 ∷ []) ≡ Err RunTooLong
unfolding front_part part_header header
header_too_long = refl

header_cut : decoded 1 1 (0x80 ∷ 0x80 ∷ 0x80 ∷ 0x80 ∷ []) ≡ Err RunShort
unfolding front_part part_header header
header_cut = refl

-- runs of 0 copies are passed over
no_copies : decoded 1 1 (0x00 ∷ 0x01 ∷ 0x02 ∷ 0x01 ∷ []) ≡ Ok (1 ∷ [], 4)
unfolding front_part part_header header
no_copies = refl

ten_ones_written : encoded 1 (1 ∷ 1 ∷ 1 ∷ 1 ∷ 1 ∷ 1 ∷ 1 ∷ 1 ∷ 1 ∷ 1 ∷ []) ≡ 0x14 ∷ 0x01 ∷ []
unfolding run group stretch piece piece_count
ten_ones_written = refl

zero_to_seven_written : encoded 3 (0 ∷ 1 ∷ 2 ∷ 3 ∷ 4 ∷ 5 ∷ 6 ∷ 7 ∷ []) ≡ 0x03 ∷ 0x88 ∷ 0xc6 ∷ 0xfa ∷ []
unfolding run group stretch piece piece_count
zero_to_seven_written = refl

-- eight equal numbers are a run, seven a group that is filled up with 0
eight_written : encoded 2 (3 ∷ 3 ∷ 3 ∷ 3 ∷ 3 ∷ 3 ∷ 3 ∷ 3 ∷ []) ≡ 0x10 ∷ 0x03 ∷ []
unfolding run group stretch piece piece_count
eight_written = refl

seven_written : encoded 2 (3 ∷ 3 ∷ 3 ∷ 3 ∷ 3 ∷ 3 ∷ 3 ∷ []) ≡ 0x03 ∷ 0xff ∷ 0x3f ∷ []
unfolding run group stretch piece piece_count
seven_written = refl
