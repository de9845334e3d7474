-- The pages of a column chunk in order (README.md of parquet-format, "Column chunks"), and the entries that they
-- have. The rules are tried in the order in which they stand here.
use Rattle.std.specs.Prelude.{ℕ, zero, suc, ◌+◌, ◌-◌, nat_lt, if◌then◌else◌, List, [], ◌∷◌, ◌++◌, length, drop, Option, None, Some, Result, Ok, Err}
use Rattle.std.specs.Ordering.{int_eq}
use Rattle.vs_bytes.specs.Numbers.{part}
use Rattle.vs_bytes.specs.Outcome.{◌>>=◌}
use Rattle.vs_bytes.specs.declared.leaf_columns.Entry.{Entry}
use Rattle.vs_bytes.specs.declared.leaf_columns.Leaf.{Leaf}
use Rattle.vs_bytes.specs.declared.rule.Rule.{Rule}
use Rattle.vs_bytes.specs.declared.rule.Rule.TheVariants as rule
use Rattle.thrift_compact.specs.PageHeaders.{page_header}
use Rattle.thrift_compact.specs.declared.page_headers.PageHeader.{PageHeader}
use Rattle.pages.specs.Pages.{index_page, count_of, page_of}

-- Where a reader of a chunk stands.
pub record Standing : Type 0 where
  -- the leaf column
  pub leaf : Leaf
  -- how many entries are still to come, where there weren't too many already
  pub left : Option ℕ
  -- the bytes that are still to come
  pub rest : List ℕ

abbrev pub standing : Leaf → Option ℕ → List ℕ → Standing
standing leaf left rest = record { leaf = leaf; left = left; rest = rest }

-- the entries of a page whose header was read, `None` of an index page
unfoldable pub entries_at : Leaf → PageHeader → List ℕ → Result (Option (List Entry)) Rule
entries_at leaf header body =
    if int_eq header.kind index_page then Ok None
    else page_of leaf header body >>= (λ entries. Ok (Some entries))

-- how many bytes the body of a page has
abbrev pub body_len : PageHeader → ℕ
body_len header = count_of header.compressed_page_size

-- the page whose header takes `used` bytes at the front
unfoldable pub page_after : Leaf → PageHeader → ℕ → List ℕ → Result (Option (List Entry) × ℕ) Rule
page_after leaf header used bytes =
    if nat_lt (length bytes) (used + body_len header) then Err rule.PageHeader
    else entries_at leaf header (part bytes used (body_len header)) >>= (λ entries. Ok (entries, used + body_len header))

-- the page at the front, and how many bytes it takes
unfoldable pub page_at : Leaf → List ℕ → Result (Option (List Entry) × ℕ) Rule
page_at leaf bytes = page_header bytes >>= (λ h. page_after leaf h.0 h.1 bytes)

-- how many entries are still to come after `count` of them
abbrev pub less : Option ℕ → ℕ → Option ℕ
less None count = None
less (Some left) count = if nat_lt left count then None else Some (left - count)

-- What comes next: the entries of a page, or `None` at the end, and where the reader stands after it.

abbrev pub Next : Type 0
Next = Result (Option (List Entry) × Standing) Rule

-- at the end of the bytes no entry may still be to come
abbrev pub at_end : Leaf → Option ℕ → Next
at_end leaf None = Err rule.ValueCount
at_end leaf (Some zero) = Ok (None, standing leaf (Some zero) [])
at_end leaf (Some (suc left)) = Err rule.ValueCount

-- an index page is passed over
abbrev pub turn_after : (Option ℕ → List ℕ → Next) → Leaf → Option ℕ → List ℕ → Option (List Entry) × ℕ → Next
turn_after more leaf left bytes (None, used) = more left (drop used bytes)
turn_after more leaf left bytes (Some entries, used) =
    Ok (Some entries, standing leaf (less left (length entries)) (drop used bytes))

-- at most `most` pages
abbrev pub turns : ℕ → Leaf → Option ℕ → List ℕ → Next
turns most leaf left [] = at_end leaf left
turns zero leaf left (byte ∷ bytes) = Err rule.PageHeader
turns (suc most) leaf left (byte ∷ bytes) =
    page_at leaf (byte ∷ bytes) >>= turn_after (turns most leaf) leaf left (byte ∷ bytes)

-- a page takes a byte or more, so there are no more pages than bytes
unfoldable pub next_of : Standing → Next
next_of s = turns (length s.rest) s.leaf s.left s.rest

-- All pages.

-- the entries of a page, in front of those that come after it
abbrev pub gathered : (Standing → Result (List Entry) Rule) → Option (List Entry) × Standing → Result (List Entry) Rule
gathered more (None, s) = Ok []
gathered more (Some entries, s) = more s >>= (λ later. Ok (entries ++ later))

abbrev pub all_from : ℕ → Standing → Result (List Entry) Rule
all_from zero s = Ok []
all_from (suc most) s = next_of s >>= gathered (all_from most)

-- all entries that are still to come. Each turn but the last takes a byte or more
unfoldable pub entries_of : Standing → Result (List Entry) Rule
entries_of s = all_from (suc (length s.rest)) s
