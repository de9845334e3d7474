-- Entries of pages, given in pieces.
use Rattle.std.proofs.Common.{◌≡◌, ◌∙◌, refl, sym, ap, ℕ, ◌+◌, ◌<◌, ◌==◌, cond, List, [], ◌∷◌, ◌++◌, length, drop, append_assoc, append-nil, slice_index_or, arith}
use Rattle.std.proofs.lemmas.List.{drop_more, drop_all}
use Rattle.std.proofs.lemmas.List.Sums.{sum_by-append}
use Rattle.vs_bytes.specs.declared.leaf_columns.Entry.{Entry}
use Rattle.chunks.specs.Pieces.{all_of, IsFirstLeft}
use Rattle.chunks.specs.RowStarts.{row_starts}

pub opened : (pages : List (List Entry)) (k : ℕ) → k < length pages → all_of (drop k pages) ≡ slice_index_or pages k [] ++ all_of (drop (k + 1) pages)
opened pages k in_pages = ap all_of (drop_more pages k [] in_pages)

-- a page of which nothing is left is passed over
pub passed : (pages : List (List Entry)) (from k : ℕ) → k < length pages → slice_index_or pages k [] ≡ [] → all_of (drop k pages) ≡ all_of (drop from pages) → all_of (drop (k + 1) pages) ≡ all_of (drop from pages)
passed pages from k in_pages empty same = sym (ap (λ (page : List Entry). page ++ all_of (drop (k + 1) pages)) empty) ∙ sym (opened pages k in_pages) ∙ same

pub starts_append : (xs ys : List Entry) → row_starts (xs ++ ys) ≡ row_starts xs + row_starts ys
starts_append xs ys = sum_by-append (λ (e : Entry). cond (e.rep == 0) 1 0) xs ys

pub starts_opened : (pages : List (List Entry)) (k : ℕ) → k < length pages → row_starts (all_of (drop k pages)) ≡ row_starts (slice_index_or pages k []) + row_starts (all_of (drop (k + 1) pages))
starts_opened pages k in_pages = ap row_starts (opened pages k in_pages) ∙ starts_append (slice_index_or pages k []) (all_of (drop (k + 1) pages))

module _ (pages : List (List Entry)) (from at : ℕ) (first : IsFirstLeft pages from at) where
  pub none_left : at ≡ length pages → all_of (drop from pages) ≡ []
  none_left is = sym first.same ∙ ap all_of (drop_all at pages (omega (arith, is)))

  pub is_end : all_of (drop from pages) ≡ [] → at < length pages → ⊥
  is_end none more = first.some more (front_nil (slice_index_or pages at []) (all_of (drop (at + 1) pages)) (sym (opened pages at more) ∙ first.same ∙ none))
    where
      front_nil : (xs ys : List Entry) → xs ++ ys ≡ [] → xs ≡ []
      front_nil [] ys is = refl
      front_nil (x ∷ xs) ys is = cc

-- one more page at the end
pub one_more : (pages : List (List Entry)) (page : List Entry) → all_of (pages ++ page ∷ []) ≡ all_of pages ++ page
one_more [] page = append-nil page
one_more (first ∷ pages) page = ap (λ (es : List Entry). first ++ es) (one_more pages page) ∙ sym (append_assoc first (all_of pages) page)
