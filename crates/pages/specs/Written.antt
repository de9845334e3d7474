-- The body of a data page that is written for entries, and what an entry weighs.
use Rattle.std.specs.Prelude.{ℕ, ◌+◌, ◌==◌, false, if◌then◌else◌, List, [], ◌++◌, length, pos, Option, None, Some}
use Rattle.std.specs.List.{sum_by}
use Rattle.vs_bytes.specs.Numbers.{number_bytes}
use Rattle.vs_bytes.specs.declared.leaf_columns.Cell.{Cell}
use Rattle.vs_bytes.specs.declared.leaf_columns.Cell.TheVariants as cell
use Rattle.vs_bytes.specs.declared.leaf_columns.Entry.{Entry}
use Rattle.vs_bytes.specs.declared.leaf_columns.Leaf.{Leaf}
use Rattle.vs_bytes.specs.declared.leaf_columns.Phys.{Phys}
use Rattle.vs_bytes.specs.declared.leaf_columns.Phys.TheVariants as phys
use Rattle.hybrid_levels.specs.Written.{encoded}
use Rattle.plain_values.specs.Written.{cell_written, plain_written}
use Rattle.pages.specs.Entries.{rep_levels, def_levels, values}
use Rattle.thrift_compact.specs.Coded.{fields_coded}
use Rattle.thrift_compact.specs.PageWriting.{page_fields}
use Rattle.thrift_compact.specs.declared.page_headers.PageHeader.{PageHeader}
use Rattle.pages.specs.Levels.{level_width}
use Rattle.pages.specs.Pages.{data_page, plain_encoding, rle_encoding}

-- the bytes of a part, after how many there are
unfoldable pub prefix_written : List ℕ → List ℕ
prefix_written part = number_bytes 4 (length part) ++ part

-- levels, of which nothing is written where the maximum is 0
unfoldable pub levels_written : ℕ → List ℕ → List ℕ
levels_written maximum levels = if maximum == 0 then [] else prefix_written (encoded (level_width maximum) levels)

-- a cell as a truth value, which those of a BOOLEAN column are
abbrev pub as_truth : Cell → Cell
as_truth (cell.Bool truth) = cell.Bool truth
as_truth (cell.Num n) = cell.Bool false
as_truth (cell.Bytes bytes) = cell.Bool false

-- the bytes of a value that is no truth value
abbrev pub value_written : Phys → Option Cell → List ℕ
value_written type None = []
value_written type (Some c) = cell_written type c

unfoldable pub body_written : Leaf → List Entry → List ℕ
body_written leaf entries =
    levels_written leaf.rep (rep_levels entries) ++ (levels_written leaf.def (def_levels entries) ++ plain_written leaf.phys (values entries))

-- the header of a data page in PLAIN, of so many entries and bytes
abbrev pub header_of : ℕ → ℕ → PageHeader
header_of count size = record {
  kind = data_page;
  uncompressed_page_size = pos size;
  compressed_page_size = pos size;
  data_page_header = Some (record { num_values = pos count; encoding = plain_encoding; definition_level_encoding = rle_encoding; repetition_level_encoding = rle_encoding });
  dictionary_page_header = None;
  data_page_header_v2 = None;
}

unfoldable pub header_written : ℕ → ℕ → List ℕ
header_written count size = fields_coded 0 (page_fields (header_of count size))

-- a page: its header, and its body
unfoldable pub page_written : Leaf → List Entry → List ℕ
page_written leaf entries = header_written (length entries) (length (body_written leaf entries)) ++ body_written leaf entries

-- What an entry weighs: 4, and the bytes of its value. A truth value weighs 1.

abbrev pub cell_weight : Phys → Cell → ℕ
cell_weight phys.Boolean c = 1
cell_weight type c = length (cell_written type c)

abbrev pub value_weight : Phys → Option Cell → ℕ
value_weight type None = 0
value_weight type (Some c) = cell_weight type c

abbrev pub weight : Phys → Entry → ℕ
weight type e = 4 + value_weight type e.value

abbrev pub weights : Phys → List Entry → ℕ
weights type entries = sum_by (weight type) entries
