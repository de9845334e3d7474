-- A chunk that is written is read back page by page.
use Rattle.std.proofs.Common.{◌≡◌, ◌∙◌, ap, ℕ, zero, suc, ◌+◌, ◌-◌, ◌<◌, ◌≤◌, List, [], ◌∷◌, ◌++◌, length, take, drop, Option, Some, Result, Ok, take-append-drop, length-drop, length-append, arith}
use Rattle.std.specs.List.{All}
use Rattle.std.proofs.Math.Seq.{drop-append_seam}
use Rattle.std.proofs.lemmas.Bool.{le-ltb}
use Rattle.std.proofs.lemmas.List.Elements.{All-take, All-drop, recursion_from_All}
use Rattle.std.proofs.lemmas.List.Sums.{sum_by-take-drop}
use Rattle.vs_bytes.specs.Outcome.{◌>>=◌}
use Rattle.vs_bytes.specs.declared.leaf_columns.Entry.{Entry}
use Rattle.vs_bytes.specs.declared.leaf_columns.Leaf.{Leaf}
use Rattle.vs_bytes.specs.declared.rule.Rule.{Rule}
use Rattle.thrift_compact.specs.Coded.{field_bytes, coded, elements_coded, fields_coded}
use Rattle.thrift_compact.specs.PageWriting.{page_fields}
use Rattle.pages.specs.Entries.{IsEntry}
use Rattle.pages.specs.Written.{body_written, header_written, page_written, weight, weights}
use Rattle.chunks.specs.Turns.{Standing, less, standing, next_of, gathered, all_from, entries_of}
use Rattle.chunks.specs.PageCuts.{chunk_written, page_len}
use Rattle.chunks.proofs.FirstPage.{first_written, nothing_written, some_entries}
use Rattle.chunks.proofs.PageBack.{page_back}
use Rattle.chunks.proofs.PagesInTurn.{at_start, gave}

-- a page has a byte or more: a header begins with its first field

some_header : (count size : ℕ) → 0 < length (header_written count size)
unfolding header_written page_fields field_bytes coded elements_coded fields_coded
some_header count size = omega arith

some_page : (leaf : Leaf) (page : List Entry) → 0 < length (page_written leaf page)
unfolding page_written
some_page leaf page =
    let front = some_header (length page) (length (body_written leaf page)) in
    let parts = length-append (header_written (length page) (length (body_written leaf page))) (body_written leaf page) in
    omega (arith, front, parts)

module _ (leaf : Leaf) (rep : leaf.rep < 65536) (def : leaf.def < 65536) where
  -- the next page is one that is written
  pub next_back : (page : List Entry) (left : Option ℕ) (more : List ℕ) → weights leaf.phys page ≤ 1000000000 → All (IsEntry leaf) page →
      next_of (standing leaf left (page_written leaf page ++ more)) ≡ Ok (Some page, standing leaf (less left (length page)) more)
  next_back page left more light are =
      let bytes : List ℕ = page_written leaf page ++ more in
      let size = length-append (page_written leaf page) more in
      let some = some_page leaf page in
      let used : 0 + length (page_written leaf page) ≡ length (page_written leaf page) = omega arith in
      gave leaf left bytes 0 0 (at_start leaf left bytes 0) (omega (arith, size, some)) page (length (page_written leaf page))
      (page_back leaf page more rep def light (recursion_from_All (IsEntry leaf) page are))
      ∙ ap (λ (k : ℕ). Ok (Some page, standing leaf (less left (length page)) (drop k bytes))) used
      ∙ ap (λ (rest : List ℕ). Ok (Some page, standing leaf (less left (length page)) rest)) (drop-append_seam (page_written leaf page) more)

  module _ (page_bytes : ℕ) where
    -- where a reader of the whole chunk stands
    abbrev at : List Entry → Standing
    at entries = standing leaf (Some (length entries)) (chunk_written leaf page_bytes entries)

    less_by : (left count rest : ℕ) → count + rest ≡ left → less (Some left) count ≡ Some rest
    less_by left count rest sum =
        let minus : left - count ≡ rest = omega (arith, sum) in
        rw (le-ltb left count (omega (arith, sum))) (ap (λ (k : ℕ). Some k) minus)

    module _ (entries : List Entry) (light : weights leaf.phys entries ≤ 1000000000) (are : All (IsEntry leaf) entries) (some : 0 < length entries) where
      abbrev len : ℕ
      len = page_len leaf.phys page_bytes entries

      -- the first page is read, and the reader stands at the chunk of the other entries
      turn : next_of (at entries) ≡ Ok (Some (take len entries), at (drop len entries))
      turn =
          let sum = sum_by-take-drop (weight leaf.phys) entries len in
          let both = length-append (take len entries) (drop len entries) in
          let all : length (take len entries ++ drop len entries) ≡ length entries = ap length (take-append-drop len entries) in
          ap (λ (bytes : List ℕ). next_of (standing leaf (Some (length entries)) bytes)) (first_written leaf page_bytes entries some)
          ∙ next_back (take len entries) (Some (length entries)) (chunk_written leaf page_bytes (drop len entries)) (omega (arith, sum, light)) (All-take (IsEntry leaf) len entries are)
          ∙ ap (λ (left : Option ℕ). Ok (Some (take len entries), standing leaf left (chunk_written leaf page_bytes (drop len entries)))) (less_by (length entries) (length (take len entries)) (length (drop len entries)) (omega (arith, both, all)))

      -- the other entries are fewer, and so are their bytes
      fewer : length (drop len entries) < length entries
      fewer =
          let size = length-drop len entries in
          let least = some_entries leaf.phys page_bytes entries some in
          omega (arith, size, least, some)

      shorter : length (chunk_written leaf page_bytes (drop len entries)) < length (chunk_written leaf page_bytes entries)
      shorter =
          let first = some_page leaf (take len entries) in
          let parts = length-append (page_written leaf (take len entries)) (chunk_written leaf page_bytes (drop len entries)) in
          let all = ap length (first_written leaf page_bytes entries some) in
          omega (arith, first, parts, all)

      light_rest : weights leaf.phys (drop len entries) ≤ 1000000000
      light_rest = let sum = sum_by-take-drop (weight leaf.phys) entries len in omega (arith, sum, light)

      are_rest : All (IsEntry leaf) (drop len entries)
      are_rest = All-drop (IsEntry leaf) len entries are

      step : (most : ℕ) → all_from most (at (drop len entries)) ≡ Ok (drop len entries) → all_from (suc most) (at entries) ≡ Ok entries
      step most rest =
          ap (λ (r : Result (Option (List Entry) × Standing) Rule). r >>= gathered (all_from most)) turn
          ∙ ap (λ (r : Result (List Entry) Rule). r >>= (λ later. Ok (take len entries ++ later))) rest
          ∙ ap (λ (es : List Entry). Ok es) (take-append-drop len entries)

    none_back : (most : ℕ) → all_from (suc most) (at []) ≡ Ok []
    unfolding next_of
    none_back most = ap (λ (bytes : List ℕ). all_from (suc most) (standing leaf (Some 0) bytes)) (nothing_written leaf page_bytes)

    all_back : (room : ℕ) (most : ℕ) (entries : List Entry) → length entries ≤ room → length (chunk_written leaf page_bytes entries) < most → weights leaf.phys entries ≤ 1000000000 → All (IsEntry leaf) entries → all_from most (at entries) ≡ Ok entries
    all_back room zero entries few enough light are = absurd (omega (arith, enough))
    all_back room (suc most) [] few enough light are = none_back most
    all_back zero (suc most) (e ∷ es) few enough light are = absurd (omega (arith, few))
    all_back (suc room) (suc most) (e ∷ es) few enough light are =
        let less_entries = fewer (e ∷ es) light are (omega arith) in
        let less_bytes = shorter (e ∷ es) light are (omega arith) in
        let len : ℕ = page_len leaf.phys page_bytes (e ∷ es) in
        step (e ∷ es) light are (omega arith) most
        (all_back room most (drop len (e ∷ es)) (omega (arith, few, less_entries)) (omega (arith, enough, less_bytes)) (light_rest (e ∷ es) light are (omega arith)) (are_rest (e ∷ es) light are (omega arith)))

    pub chunk_back : (entries : List Entry) → weights leaf.phys entries ≤ 1000000000 → All (IsEntry leaf) entries → entries_of (at entries) ≡ Ok entries
    unfolding entries_of
    chunk_back entries light are = all_back (length entries) (suc (length (chunk_written leaf page_bytes entries))) entries (omega arith) (omega arith) light are
