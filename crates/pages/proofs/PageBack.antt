-- The page that is written for entries reads back.
use Rattle.std.proofs.Common.{◌≡◌, ◌∙◌, refl, sym, ap, ℕ, ◌^◌, ◌<◌, ◌≤◌, ◌==◌, Bool, true, false, ◌||◌, List, [], ◌++◌, length, pos, Ok, append-nil, le→leb, arith}
use Rattle.std.specs.List.{AllByRecursion}
use Rattle.std.proofs.lemmas.List.{length-map}
use Rattle.vs_bytes.specs.declared.leaf_columns.Entry.{Entry}
use Rattle.vs_bytes.specs.declared.leaf_columns.Leaf.{Leaf}
use Rattle.hybrid_levels.proofs.Sizes.{encoded_len}
use Rattle.thrift_compact.specs.PageHeaders.{page_header}
use Rattle.thrift_compact.specs.PageWriting.{IsWritable}
use Rattle.thrift_compact.proofs.PagesBack.{page_reads_back}
use Rattle.pages.specs.Bodies.{data_body}
use Rattle.pages.specs.Entries.{rep_levels, def_levels, IsEntry}
use Rattle.pages.specs.Levels.{level_width}
use Rattle.pages.specs.Pages.{levels_read, data_entries, page_of}
use Rattle.pages.specs.Written.{body_written, header_of, header_written}
use Rattle.pages.proofs.BodyBack.{IsSmall, body_back}

pub header_writable : (count size : ℕ) → IsWritable (header_of count size)
header_writable count size = record {
  inner = refl;
  uncompressed = omega (arith, le→leb);
  compressed = omega (arith, le→leb);
  data_page = omega (arith, le→leb);
  dictionary_page = tt;
  data_page_v2 = tt;
}

pub header_back : (count size : ℕ) (more : List ℕ) → count < 2 ^ 31 → size < 2 ^ 31 → page_header (header_written count size ++ more) ≡ Ok (header_of count size, length (header_written count size))
unfolding header_written
header_back count size more few short =
    page_reads_back (header_of count size) more (header_writable count size)
    (record {
      kind = omega arith;
      uncompressed = omega (arith, short);
      compressed = omega (arith, short);
      data_page = (omega (arith, few), omega arith, omega arith, omega arith);
      dictionary_page = tt;
      data_page_v2 = tt;
    })

always_read : (maximum : ℕ) → levels_read maximum (pos 3) ≡ true
always_read maximum = by (maximum == 0)
  where
    by : (b : Bool) → (b || true) ≡ true
    by true = refl
    by false = refl

pub entries_back : (leaf : Leaf) (entries : List Entry) (size : ℕ) → IsSmall leaf entries → AllByRecursion (IsEntry leaf) entries → page_of leaf (header_of (length entries) size) (body_written leaf entries) ≡ Ok entries
unfolding page_of data_entries
entries_back leaf entries size small are =
    rw (always_read leaf.rep, always_read leaf.def)
    (ap (data_body leaf (length entries)) (sym (append-nil (body_written leaf entries))) ∙ body_back leaf entries [] small are)

-- a thousand million entries are few enough
pub small_page : (leaf : Leaf) (entries : List Entry) → leaf.rep < 65536 → leaf.def < 65536 → length entries ≤ 1000000000 → IsSmall leaf entries
small_page leaf entries rep def few = record {
  rep = rep;
  def = def;
  few = omega (arith, few);
  few_reps =
      let count = length-map entries (λ (e : Entry). e.rep) in
      let size = encoded_len (level_width leaf.rep) (rep_levels entries) (omega arith) in
      omega (arith, count, size, few);
  few_defs =
      let count = length-map entries (λ (e : Entry). e.def) in
      let size = encoded_len (level_width leaf.def) (def_levels entries) (omega arith) in
      omega (arith, count, size, few);
}
