-- The pages of a chunk written in turn.
use Rattle.std.proofs.Common.{◌≡◌, ◌∙◌, sym, ap, ap₂, ℕ, ◌+◌, ◌-◌, ◌<◌, ◌≤◌, List, ◌++◌, length, take, drop, append_assoc, append-nil, take_all, drop-drop, length-drop, drop_of_length-le, arith}
use Rattle.std.proofs.lemmas.List.Sums.{sum_by-take-drop, sum_by-take-le}
use Rattle.vs_bytes.specs.declared.leaf_columns.Entry.{Entry}
use Rattle.vs_bytes.specs.declared.leaf_columns.Leaf.{Leaf}
use Rattle.vs_bytes.specs.declared.leaf_columns.Phys.{Phys}
use Rattle.pages.specs.Written.{page_written, weight, weights}
use Rattle.chunks.specs.PageCuts.{chunk_written, page_len}
use Rattle.chunks.proofs.FirstPage.{first_written, nothing_written, some_entries}

-- the entries from a place on, as the code takes them
abbrev ahead : List Entry → ℕ → List Entry
ahead entries at = take (length entries - at) (drop at entries)

ahead_is : (entries : List Entry) (at : ℕ) → ahead entries at ≡ drop at entries
ahead_is entries at = let size = length-drop at entries in take_all (length entries - at) (drop at entries) (omega (arith, size))

pub light_ahead : (type : Phys) (entries : List Entry) (at : ℕ) → weights type entries ≤ 1000000000 → weights type (ahead entries at) ≤ 1000000000
light_ahead type entries at light =
    let part = sum_by-take-le (weight type) (drop at entries) (length entries - at) in
    let sum = sum_by-take-drop (weight type) entries at in
    omega (arith, part, sum, light)

some_ahead : (entries : List Entry) (at : ℕ) → at < length entries → 0 < length (drop at entries)
some_ahead entries at more = let size = length-drop at entries in omega (arith, size, more)

module _ (leaf : Leaf) (page_bytes : ℕ) (entries : List Entry) (at len : ℕ) (more : at < length entries) (cut : len ≡ page_len leaf.phys page_bytes (ahead entries at)) where
  len_is : len ≡ page_len leaf.phys page_bytes (drop at entries)
  len_is = cut ∙ ap (page_len leaf.phys page_bytes) (ahead_is entries at)

  pub some_taken : 1 ≤ len
  some_taken = let least = some_entries leaf.phys page_bytes (drop at entries) (some_ahead entries at more) in omega (arith, least, len_is)

  pub inside : len ≤ length (ahead entries at) → at + len ≤ length entries
  inside within =
      let size = ap length (ahead_is entries at) in
      let left = length-drop at entries in
      omega (arith, size, left, within, more)

  pub one_page : (old new : List ℕ) → new ≡ old ++ page_written leaf (take len (ahead entries at)) → old ++ chunk_written leaf page_bytes (drop at entries) ≡ chunk_written leaf page_bytes entries →
      new ++ chunk_written leaf page_bytes (drop (at + len) entries) ≡ chunk_written leaf page_bytes entries
  one_page old new page so_far =
      let first : page_written leaf (take len (ahead entries at)) ≡ page_written leaf (take (page_len leaf.phys page_bytes (drop at entries)) (drop at entries)) =
      ap₂ (λ (k : ℕ) (es : List Entry). page_written leaf (take k es)) len_is (ahead_is entries at) in
      let later : chunk_written leaf page_bytes (drop (at + len) entries) ≡ chunk_written leaf page_bytes (drop (page_len leaf.phys page_bytes (drop at entries)) (drop at entries)) =
      ap (chunk_written leaf page_bytes) (sym (drop-drop len at entries) ∙ ap (λ (k : ℕ). drop k (drop at entries)) len_is) in
      ap (λ (bytes : List ℕ). bytes ++ chunk_written leaf page_bytes (drop (at + len) entries)) page
      ∙ append_assoc old (page_written leaf (take len (ahead entries at))) (chunk_written leaf page_bytes (drop (at + len) entries))
      ∙ ap₂ (λ (xs ys : List ℕ). old ++ (xs ++ ys)) first later
      ∙ ap (λ (bytes : List ℕ). old ++ bytes) (sym (first_written leaf page_bytes (drop at entries) (some_ahead entries at more)))
      ∙ so_far

pub all_written : (leaf : Leaf) (page_bytes : ℕ) (entries : List Entry) (at : ℕ) (bytes : List ℕ) → length entries ≤ at → bytes ++ chunk_written leaf page_bytes (drop at entries) ≡ chunk_written leaf page_bytes entries → bytes ≡ chunk_written leaf page_bytes entries
all_written leaf page_bytes entries at bytes done so_far =
    sym (append-nil bytes)
    ∙ ap (λ (more : List ℕ). bytes ++ more) (sym (nothing_written leaf page_bytes) ∙ ap (chunk_written leaf page_bytes) (sym (drop_of_length-le entries done)))
    ∙ so_far
