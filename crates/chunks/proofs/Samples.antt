-- A chunk worked out by hand.
use Rattle.std.proofs.Common.{◌≡◌, refl, pos, [], ◌∷◌, Some, None}
use Rattle.std.specs.Int.Count.{count_leading_zeros}
use Rattle.exact_num.specs.Unscaled.{unsigned_number}
use Rattle.vs_bytes.specs.declared.leaf_columns.Cell.TheVariants as cell
use Rattle.vs_bytes.specs.declared.leaf_columns.Entry.{Entry}
use Rattle.vs_bytes.specs.declared.leaf_columns.Leaf.{Leaf}
use Rattle.vs_bytes.specs.declared.leaf_columns.Phys.TheVariants as phys
use Rattle.vs_bytes.specs.declared.leaf_columns.PrimKind.TheVariants as prim
use Rattle.hybrid_levels.specs.Written.{run, group, stretch, piece, piece_count}
use Rattle.thrift_compact.specs.Coded.{digits_of, varint_bytes, signed_bytes, field_bytes, coded, elements_coded, fields_coded}
use Rattle.thrift_compact.specs.PageWriting.{data_fields, page_fields}
use Rattle.pages.specs.Bodies.{entry}
use Rattle.pages.specs.Written.{prefix_written, levels_written, body_written, header_written, page_written}
use Rattle.chunks.specs.PageCuts.{pages_from, pages_of, chunk_written}

-- a column of optional INT64 values whose definition levels reach 3
abbrev integers : Leaf
integers = record { rep = 0; def = 3; phys = phys.Int64; prim = prim.Int64 }

-- One value, 9. The header has a page of kind 0, twice 15 bytes of body, and inside it one entry in PLAIN (0) with
-- levels in RLE (3). The body has 3 bytes of definition levels, one group in which the first level is 3, then the value.
one_value : chunk_written integers 1048576 (entry 0 3 (Some (cell.Num (pos 9))) ∷ []) ≡
    0x15 ∷ 0x00 ∷ 0x15 ∷ 0x1e ∷ 0x15 ∷ 0x1e ∷ 0x2c ∷ 0x15 ∷ 0x02 ∷ 0x15 ∷ 0x00 ∷ 0x15 ∷ 0x06 ∷ 0x15 ∷ 0x06 ∷ 0x00 ∷ 0x00
    ∷ 0x03 ∷ 0x00 ∷ 0x00 ∷ 0x00 ∷ 0x03 ∷ 0x03 ∷ 0x00 ∷ 0x09 ∷ 0x00 ∷ 0x00 ∷ 0x00 ∷ 0x00 ∷ 0x00 ∷ 0x00 ∷ 0x00 ∷ []
unfolding chunk_written pages_from page_written header_written body_written levels_written prefix_written run group stretch piece piece_count digits_of varint_bytes signed_bytes field_bytes coded elements_coded fields_coded data_fields page_fields unsigned_number count_leading_zeros
one_value = refl

-- A list column: rows of two entries, one entry, and one. A null weighs 4.

abbrev first : Entry
first = entry 0 1 None

abbrev second : Entry
second = entry 1 1 None

abbrev third : Entry
third = entry 0 0 None

abbrev fourth : Entry
fourth = entry 0 2 None

-- the first row reaches 8, and no page is cut inside it
one_row_a_page : pages_of phys.Int64 8 (first ∷ second ∷ third ∷ fourth ∷ []) ≡ (first ∷ second ∷ []) ∷ (third ∷ fourth ∷ []) ∷ []
unfolding pages_from
one_row_a_page = refl

-- the second row reaches 9
two_rows_a_page : pages_of phys.Int64 9 (first ∷ second ∷ third ∷ fourth ∷ []) ≡ (first ∷ second ∷ third ∷ []) ∷ (fourth ∷ []) ∷ []
unfolding pages_from
two_rows_a_page = refl
