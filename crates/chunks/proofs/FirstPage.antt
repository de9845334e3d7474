-- The first page of a chunk, and what comes after it.
use Rattle.std.proofs.Common.{◌≡◌, ◌∙◌, refl, sym, ap, ℕ, suc, ◌+◌, ◌<◌, ◌≤◌, Bool, true, false, cond, List, [], ◌∷◌, ◌++◌, length, take, drop, append_assoc, arith}
use Rattle.std.specs.List.{flat_map}
use Rattle.std.proofs.lemmas.List.Concat.{flat_map-cons}
use Rattle.std.proofs.lemmas.List.Sums.{sum_by-cons, sum_by_push}
use Rattle.vs_bytes.specs.declared.leaf_columns.Entry.{Entry}
use Rattle.vs_bytes.specs.declared.leaf_columns.Leaf.{Leaf}
use Rattle.vs_bytes.specs.declared.leaf_columns.Phys.{Phys}
use Rattle.pages.specs.Written.{page_written, weight, weights}
use Rattle.chunks.specs.PageCuts.{ends, pages_from, pages_of, chunk_written, begins_page, later_len, page_len}

-- the page with `count` entries more, and the pages after it
abbrev cut_at : Phys → ℕ → List Entry → ℕ → List Entry → List (List Entry)
cut_at type page_bytes page count es = (page ++ take count es) ∷ pages_from type page_bytes [] (drop count es)

one_entry : (type : Phys) (page_bytes : ℕ) (page : List Entry) (e : Entry) (es : List Entry) →
    pages_from type page_bytes page (e ∷ es) ≡ cond (ends type page_bytes (page ++ e ∷ []) es) ((page ++ e ∷ []) ∷ pages_from type page_bytes [] es) (pages_from type page_bytes (page ++ e ∷ []) es)
unfolding pages_from
one_entry type page_bytes page e es = refl

one_later : (type : Phys) (page_bytes held : ℕ) (e : Entry) (es : List Entry) →
    later_len type page_bytes held (e ∷ es) ≡ cond (begins_page page_bytes held e) 0 (suc (later_len type page_bytes (held + weight type e) es))
unfolding later_len
one_later type page_bytes held e es = refl

none_later : (type : Phys) (page_bytes held : ℕ) → later_len type page_bytes held [] ≡ 0
unfolding later_len
none_later type page_bytes held = refl

module _ (type : Phys) (page_bytes : ℕ) where
  abbrev Cut : List Entry → ℕ → Entry → List Entry → Type 0
  Cut page held e es = pages_from type page_bytes page (e ∷ es) ≡ cut_at type page_bytes page (suc (later_len type page_bytes held es)) (e ∷ es)

  -- the next entry begins a page, or goes on with this one
  next_entry : (page : List Entry) (e next : Entry) (later : List Entry) (count : ℕ) (b : Bool) →
      pages_from type page_bytes (page ++ e ∷ []) (next ∷ later) ≡ cut_at type page_bytes (page ++ e ∷ []) count (next ∷ later) →
      cond b ((page ++ e ∷ []) ∷ pages_from type page_bytes [] (next ∷ later)) (pages_from type page_bytes (page ++ e ∷ []) (next ∷ later)) ≡ cut_at type page_bytes page (suc (cond b 0 count)) (e ∷ next ∷ later)
  next_entry page e next later count true goes_on = refl
  next_entry page e next later count false goes_on =
      goes_on ∙ ap (λ (first : List Entry). first ∷ pages_from type page_bytes [] (drop count (next ∷ later))) (append_assoc page (e ∷ []) (take count (next ∷ later)))

  first_from : (page : List Entry) (held : ℕ) (e : Entry) (es : List Entry) → weights type (page ++ e ∷ []) ≡ held → Cut page held e es
  first_from page held e [] h = one_entry type page_bytes page e [] ∙ ap (λ (k : ℕ). cut_at type page_bytes page (suc k) (e ∷ [])) (sym (none_later type page_bytes held))
  first_from page held e (next ∷ later) h =
      let more : weights type ((page ++ e ∷ []) ++ next ∷ []) ≡ held + weight type next =
      sum_by_push (weight type) (page ++ e ∷ []) next ∙ ap (λ (w : ℕ). w + weight type next) h in
      let count : ℕ = suc (later_len type page_bytes (held + weight type next) later) in
      one_entry type page_bytes page e (next ∷ later)
      ∙ ap (λ (w : ℕ). cond (begins_page page_bytes w next) ((page ++ e ∷ []) ∷ pages_from type page_bytes [] (next ∷ later)) (pages_from type page_bytes (page ++ e ∷ []) (next ∷ later))) h
      ∙ next_entry page e next later count (begins_page page_bytes held next) (first_from (page ++ e ∷ []) (held + weight type next) next later more)
      ∙ ap (λ (k : ℕ). cut_at type page_bytes page (suc k) (e ∷ next ∷ later)) (sym (one_later type page_bytes held next later))

  pub first_page : (entries : List Entry) → 0 < length entries →
      pages_of type page_bytes entries ≡ take (page_len type page_bytes entries) entries ∷ pages_of type page_bytes (drop (page_len type page_bytes entries) entries)
  unfolding page_len
  first_page [] some = absurd (omega (arith, some))
  first_page (e ∷ es) some = let one = sum_by-cons (weight type) e [] in first_from [] (weight type e) e es (omega (arith, one))

  pub some_entries : (entries : List Entry) → 0 < length entries → 1 ≤ page_len type page_bytes entries
  unfolding page_len
  some_entries [] some = absurd (omega (arith, some))
  some_entries (e ∷ es) some = omega arith

-- the chunk is its first page, and the chunk of what comes after it
pub first_written : (leaf : Leaf) (page_bytes : ℕ) (entries : List Entry) → 0 < length entries →
    chunk_written leaf page_bytes entries ≡ page_written leaf (take (page_len leaf.phys page_bytes entries) entries) ++ chunk_written leaf page_bytes (drop (page_len leaf.phys page_bytes entries) entries)
unfolding chunk_written
first_written leaf page_bytes entries some =
    ap (flat_map (page_written leaf)) (first_page leaf.phys page_bytes entries some)
    ∙ flat_map-cons (page_written leaf) (take (page_len leaf.phys page_bytes entries) entries) (pages_of leaf.phys page_bytes (drop (page_len leaf.phys page_bytes entries) entries))

pub nothing_written : (leaf : Leaf) (page_bytes : ℕ) → chunk_written leaf page_bytes [] ≡ []
unfolding chunk_written pages_from
nothing_written leaf page_bytes = refl
