-- A page that is written is read at the front of bytes.
use Rattle.std.proofs.Common.{◌≡◌, ◌∙◌, refl, sym, ap, ℕ, ◌+◌, ◌<◌, ◌≤◌, nat_lt, false, List, ◌++◌, length, take, drop, Some, Ok, append_assoc, arith}
use Rattle.std.specs.List.{AllByRecursion}
use Rattle.std.proofs.Math.Seq.{drop-append_seam, take-append_seam}
use Rattle.std.proofs.lemmas.Bool.{le-ltb}
use Rattle.std.proofs.lemmas.List.{length-append}
use Rattle.vs_bytes.specs.Numbers.{part}
use Rattle.vs_bytes.specs.declared.leaf_columns.Entry.{Entry}
use Rattle.vs_bytes.specs.declared.leaf_columns.Leaf.{Leaf}
use Rattle.thrift_compact.specs.PageHeaders.{page_header}
use Rattle.pages.specs.Entries.{IsEntry}
use Rattle.pages.specs.Written.{body_written, header_of, header_written, page_written, weights}
use Rattle.pages.proofs.Light.{few_entries, short_body}
use Rattle.pages.proofs.PageBack.{header_back, entries_back, small_page}
use Rattle.chunks.specs.Turns.{entries_at, page_after, page_at}

module _ (leaf : Leaf) (entries : List Entry) (more : List ℕ) (rep : leaf.rep < 65536) (def : leaf.def < 65536) (light : weights leaf.phys entries ≤ 1000000000) (are : AllByRecursion (IsEntry leaf) entries) where
  abbrev body : List ℕ
  body = body_written leaf entries

  abbrev front : List ℕ
  front = header_written (length entries) (length body)

  few : length entries ≤ 1000000000
  few = few_entries leaf.phys entries light

  all : (front ++ body) ++ more ≡ front ++ (body ++ more)
  all = append_assoc front body more

  header_is : page_header ((front ++ body) ++ more) ≡ Ok (header_of (length entries) (length body), length front)
  header_is =
      let most = few in
      ap page_header all ∙ header_back (length entries) (length body) (body ++ more) (omega (arith, most)) (short_body leaf entries light)

  there : nat_lt (length ((front ++ body) ++ more)) (length front + length body) ≡ false
  there =
      let outer = length-append (front ++ body) more in
      let inner = length-append front body in
      le-ltb (length ((front ++ body) ++ more)) (length front + length body) (omega (arith, outer, inner))

  part_is : part ((front ++ body) ++ more) (length front) (length body) ≡ body
  part_is =
      ap (λ (bytes : List ℕ). take (length body) (drop (length front) bytes)) all
      ∙ ap (take (length body)) (drop-append_seam front (body ++ more))
      ∙ take-append_seam body more

  after_back : page_after leaf (header_of (length entries) (length body)) (length front) ((front ++ body) ++ more) ≡ Ok (Some entries, length front + length body)
  unfolding page_after entries_at
  after_back = rw (there, part_is, entries_back leaf entries (length body) (small_page leaf entries rep def few) are) refl

  pub page_back : page_at leaf (page_written leaf entries ++ more) ≡ Ok (Some entries, length (page_written leaf entries))
  unfolding page_at page_written
  page_back = rw header_is (after_back ∙ ap (λ (k : ℕ). Ok (Some entries, k)) (sym (length-append front body)))
