-- The entries of a page, whose header was read (README.md of parquet-format, "Data Pages"; parquet.thrift,
-- PageHeader). The rules are tried in the order in which they stand here.
use Rattle.std.specs.Prelude.{ℕ, ◌==◌, ◌||◌, ◌&&◌, not, Bool, if◌then◌else◌, ℤ, pos, negsuc, List, Option, None, Some, Result, Err}
use Rattle.std.specs.Ordering.{int_eq}
use Rattle.vs_bytes.specs.declared.leaf_columns.Entry.{Entry}
use Rattle.vs_bytes.specs.declared.leaf_columns.Leaf.{Leaf}
use Rattle.vs_bytes.specs.declared.rule.Rule.{Rule}
use Rattle.vs_bytes.specs.declared.rule.Rule.TheVariants as rule
use Rattle.thrift_compact.specs.declared.page_headers.DataHeader.{DataHeader}
use Rattle.thrift_compact.specs.declared.page_headers.PageHeader.{PageHeader}
use Rattle.pages.specs.Bodies.{data_body}

-- kinds of page, and encodings

abbrev pub data_page : ℤ
data_page = pos 0

abbrev pub index_page : ℤ
index_page = pos 1

abbrev pub plain_encoding : ℤ
plain_encoding = pos 0

abbrev pub rle_encoding : ℤ
rle_encoding = pos 3

-- a count or size of a header. Those that are read aren't negative
abbrev pub count_of : ℤ → ℕ
count_of (pos n) = n
count_of (negsuc n) = 0

-- whether levels are there in an encoding that is read, or aren't there
abbrev pub levels_read : ℕ → ℤ → Bool
levels_read maximum encoding = maximum == 0 || int_eq encoding rle_encoding

abbrev pub encodings_read : Leaf → DataHeader → Bool
encodings_read leaf inner =
    int_eq inner.encoding plain_encoding
    && (levels_read leaf.rep inner.repetition_level_encoding && levels_read leaf.def inner.definition_level_encoding)

unfoldable pub data_entries : Leaf → Option DataHeader → List ℕ → Result (List Entry) Rule
data_entries leaf None body = Err rule.PageHeader
data_entries leaf (Some inner) body =
    if not (encodings_read leaf inner) then Err rule.Encoding
    else data_body leaf (count_of inner.num_values) body

-- the entries of a page that isn't an index page, or the first rule that is violated
unfoldable pub page_of : Leaf → PageHeader → List ℕ → Result (List Entry) Rule
page_of leaf header body =
    if not (int_eq header.kind data_page) then Err rule.PageKind
    else data_entries leaf header.data_page_header body
