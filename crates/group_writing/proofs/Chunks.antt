-- Chunks and their structs, leaf by leaf.
use Rattle.std.proofs.Common.{◌≡◌, ◌∙◌, refl, sym, ap, ℕ, ◌+◌, ◌*◌, ◌^◌, ◌<◌, ◌≤◌, List, [], ◌∷◌, ◌++◌, length, get_or, drop, drop_of_length-le, append-nil, arith}
use Rattle.std.proofs.Math.Numerals.{add-one}
use Rattle.std.proofs.Math.Seq.{drop-cons}
use Rattle.std.proofs.lemmas.List.{append_assoc}
use Rattle.std.proofs.lemmas.List.Sums.{sum_by-append}
use Rattle.vs_bytes.specs.declared.leaf_columns.Entry.{Entry}
use Rattle.vs_bytes.specs.declared.leaf_columns.Leaf.{Leaf}
use Rattle.vs_bytes.specs.declared.leaf_columns.Phys.TheVariants as phys
use Rattle.vs_bytes.specs.declared.leaf_columns.PrimKind.TheVariants as prim
use Rattle.chunks.specs.PageCuts.{chunk_written}
use Rattle.thrift_structs.specs.declared.column_chunks.ChunkMeta.{ChunkMeta}
use Rattle.group_writing.specs.FitsChunk.{FitsChunk}
use Rattle.group_writing.specs.GroupChunks.{Path, chunk_meta, chunks_from, metas_from, chunks_size}

-- the leaf that stands in where an index is past the end
abbrev pub no_leaf : Leaf
no_leaf = record { rep = 0; def = 0; phys = phys.Boolean; prim = prim.Raw }

-- an item and those after it
from_here : {A : Type 0} (xs : List A) (j : ℕ) (d : A) → j < length xs → drop j xs ≡ get_or xs j d ∷ drop (j + 1) xs
from_here xs j d h = drop-cons xs j d h ∙ ap (λ n. get_or xs j d ∷ drop n xs) (sym (add-one j))

-- one more item
joined : {A : Type 0} (now more rest left all : List A) (x : A) → more ≡ now ++ x ∷ [] → left ≡ x ∷ rest → now ++ left ≡ all → more ++ rest ≡ all
joined now more rest left all x e cut whole = ap (λ xs. xs ++ rest) e ∙ (append_assoc now (x ∷ []) rest ∙ (ap (λ xs. now ++ xs) (sym cut) ∙ whole))

pub chunk_more : (page_bytes : ℕ) (es : ℕ → List Entry) (j : ℕ) (leaves : List Leaf) (other leaf : Leaf) (entries : List Entry) (now more all : List (List ℕ)) →
    j < length leaves → leaf ≡ get_or leaves j other → entries ≡ es j →
    more ≡ now ++ chunk_written leaf page_bytes entries ∷ [] →
    now ++ chunks_from page_bytes es j (drop j leaves) ≡ all →
    more ++ chunks_from page_bytes es (j + 1) (drop (j + 1) leaves) ≡ all
unfolding chunks_from
chunk_more page_bytes es j leaves other leaf entries now more all h is own e whole =
    joined now more (chunks_from page_bytes es (j + 1) (drop (j + 1) leaves)) (chunks_from page_bytes es j (drop j leaves)) all (chunk_written leaf page_bytes entries) e
    (ap (chunks_from page_bytes es j) (from_here leaves j other h ∙ ap (λ (x : Leaf). x ∷ drop (j + 1) leaves) (sym is)) ∙ ap (λ (xs : List Entry). chunk_written leaf page_bytes xs ∷ chunks_from page_bytes es (j + 1) (drop (j + 1) leaves)) (sym own))
    whole

pub meta_more : (page_bytes : ℕ) (es : ℕ → List Entry) (j place size after : ℕ) (leaves : List Leaf) (paths : List Path) (other leaf : Leaf) (path : Path) (entries : List Entry) (now more all : List ChunkMeta) →
    j < length leaves → j < length paths → leaf ≡ get_or leaves j other → path ≡ get_or paths j path → entries ≡ es j →
    after ≡ size + length (chunk_written leaf page_bytes entries) →
    more ≡ now ++ chunk_meta leaf path (place + size) (length (chunk_written leaf page_bytes entries)) entries ∷ [] →
    now ++ metas_from page_bytes es j (place + size) (drop j leaves) (drop j paths) ≡ all →
    more ++ metas_from page_bytes es (j + 1) (place + after) (drop (j + 1) leaves) (drop (j + 1) paths) ≡ all
unfolding metas_from
meta_more page_bytes es j place size after leaves paths other leaf path entries now more all h i is way own sum e whole =
    joined now more (metas_from page_bytes es (j + 1) (place + after) (drop (j + 1) leaves) (drop (j + 1) paths)) (metas_from page_bytes es j (place + size) (drop j leaves) (drop j paths)) all (chunk_meta leaf path (place + size) (length (chunk_written leaf page_bytes entries)) entries) e cut whole
  where
    next : place + size + length (chunk_written leaf page_bytes entries) ≡ place + after
    next = omega (arith, sum)

    cut : metas_from page_bytes es j (place + size) (drop j leaves) (drop j paths) ≡ chunk_meta leaf path (place + size) (length (chunk_written leaf page_bytes entries)) entries ∷ metas_from page_bytes es (j + 1) (place + after) (drop (j + 1) leaves) (drop (j + 1) paths)
    cut =
        ap (λ (xs : List Leaf). metas_from page_bytes es j (place + size) xs (drop j paths)) (from_here leaves j other h ∙ ap (λ (x : Leaf). x ∷ drop (j + 1) leaves) (sym is))
        ∙ (ap (λ (xs : List Path). metas_from page_bytes es j (place + size) (leaf ∷ drop (j + 1) leaves) xs) (from_here paths j path i ∙ ap (λ (x : Path). x ∷ drop (j + 1) paths) (sym way))
        ∙ (ap (λ (xs : List Entry). chunk_meta leaf path (place + size) (length (chunk_written leaf page_bytes xs)) xs ∷ metas_from page_bytes es (j + 1) (place + size + length (chunk_written leaf page_bytes xs)) (drop (j + 1) leaves) (drop (j + 1) paths)) (sym own)
        ∙ ap (λ (n : ℕ). chunk_meta leaf path (place + size) (length (chunk_written leaf page_bytes entries)) entries ∷ metas_from page_bytes es (j + 1) n (drop (j + 1) leaves) (drop (j + 1) paths)) next))

pub size_more : (now more : List (List ℕ)) (chunk : List ℕ) (size after : ℕ) → more ≡ now ++ chunk ∷ [] → size ≡ chunks_size now → after ≡ size + length chunk → after ≡ chunks_size more
size_more now more chunk size after e is sum =
    let parts = sum_by-append (length {A = ℕ}) now (chunk ∷ []) in
    let whole = ap chunks_size e in
    omega (arith, parts, whole, is, sum)

-- each chunk is short
pub still_small : (page_bytes : ℕ) (es : ℕ → List Entry) (leaf : Leaf) (entries : List Entry) (j size after : ℕ) → FitsChunk leaf page_bytes (es j) → entries ≡ es j → after ≡ size + length (chunk_written leaf page_bytes entries) → size ≤ j * 2 ^ 30 → after ≤ (j + 1) * 2 ^ 30
still_small page_bytes es leaf entries j size after fits own sum low =
    let short = fits.short in
    let same = ap (λ (xs : List Entry). length (chunk_written leaf page_bytes xs)) own in
    omega (arith, short, same, sum, low)

-- no leaves are left
pub chunks_done : (page_bytes : ℕ) (es : ℕ → List Entry) (j : ℕ) → chunks_from page_bytes es j [] ≡ []
unfolding chunks_from
chunks_done page_bytes es j = refl

pub metas_done : (page_bytes : ℕ) (es : ℕ → List Entry) (j place : ℕ) (paths : List Path) → metas_from page_bytes es j place [] paths ≡ []
unfolding metas_from
metas_done page_bytes es j place paths = refl

-- the same entries give the same chunks
pub chunks_same : (page_bytes : ℕ) (es fs : ℕ → List Entry) (j : ℕ) (leaves : List Leaf) → ((k : ℕ) → es k ≡ fs k) → chunks_from page_bytes es j leaves ≡ chunks_from page_bytes fs j leaves
chunks_same page_bytes es fs j leaves same = λ i. chunks_from page_bytes (λ k. same k i) j leaves

pub metas_same : (page_bytes : ℕ) (es fs : ℕ → List Entry) (j place : ℕ) (leaves : List Leaf) (paths : List Path) → ((k : ℕ) → es k ≡ fs k) → metas_from page_bytes es j place leaves paths ≡ metas_from page_bytes fs j place leaves paths
metas_same page_bytes es fs j place leaves paths same = λ i. metas_from page_bytes (λ k. same k i) j place leaves paths

-- at the end nothing is left
pub chunks_all : (page_bytes : ℕ) (es : ℕ → List Entry) (j : ℕ) (leaves : List Leaf) (now all : List (List ℕ)) → length leaves ≤ j → now ++ chunks_from page_bytes es j (drop j leaves) ≡ all → now ≡ all
chunks_all page_bytes es j leaves now all past whole =
    sym (append-nil now) ∙ (ap (λ xs. now ++ xs) (sym (ap (chunks_from page_bytes es j) (drop_of_length-le leaves past) ∙ chunks_done page_bytes es j)) ∙ whole)

pub metas_all : (page_bytes : ℕ) (es : ℕ → List Entry) (j place : ℕ) (leaves : List Leaf) (paths : List Path) (now all : List ChunkMeta) → length leaves ≤ j → now ++ metas_from page_bytes es j place (drop j leaves) paths ≡ all → now ≡ all
metas_all page_bytes es j place leaves paths now all past whole =
    sym (append-nil now) ∙ (ap (λ xs. now ++ xs) (sym (ap (λ (xs : List Leaf). metas_from page_bytes es j place xs paths) (drop_of_length-le leaves past) ∙ metas_done page_bytes es j place paths)) ∙ whole)
