-- Masks as lists.
use Rattle.std.proofs.Common.{◌≡◌, ◌∙◌, ap, refl, ℕ, zero, suc, ◌+◌, ◌<◌, ◌||◌, Bool, false, List, [], ◌∷◌, length, replicate, arith}
use Rattle.std.proofs.lemmas.List.{length-replicate}
use Rattle.query_tree.specs.Asked.{Asked}
use Rattle.shred_schema.specs.Groups.{Group, width}
use Rattle.shred_schema.specs.Ranges.{reads}
use Rattle.chunk_pruning.specs.Marks.{IsMarked}
use Rattle.chunk_pruning.specs.Needs.{is_needed, listed, needs, ReadsNeeded}
use Rattle.chunk_pruning.proofs.Leaves.{needed_within}

length_listed : (p : ℕ → Bool) (j count : ℕ) → length (listed p j count) ≡ count
length_listed p j zero = refl
length_listed p j (suc count) = ap suc (length_listed p (j + 1) count)

reads_listed : (p : ℕ → Bool) (j count i : ℕ) → i < count → reads (listed p j count) i ≡ p (j + i)
reads_listed p j zero i h = absurd (omega arith)
reads_listed p j (suc count) zero h = ap p (omega arith)
reads_listed p j (suc count) (suc i) h = reads_listed p (j + 1) count i (omega arith) ∙ ap p (omega arith)

is_listed : (mask : List Bool) (p : ℕ → Bool) (j count : ℕ) → length mask ≡ count → ((i : ℕ) → i < count → reads mask i ≡ p (j + i)) → mask ≡ listed p j count
is_listed [] p j zero e same = refl
is_listed [] p j (suc count) e same = absurd (omega arith)
is_listed (b ∷ mask) p j zero e same = absurd (omega arith)
is_listed (b ∷ mask) p j (suc count) e same =
    let here : j + 0 ≡ j = omega arith in
    let first : b ≡ p j = same 0 (omega arith) ∙ ap p here in
    let next : (i : ℕ) → j + suc i ≡ j + 1 + i = λ i. omega arith in
    let rest : mask ≡ listed p (j + 1) count = is_listed mask p (j + 1) count (omega arith) (λ i h. same (suc i) (omega arith) ∙ ap p (next i)) in
    ap (λ x. x ∷ mask) first ∙ ap (λ xs. p j ∷ xs) rest

reads_none : (count j : ℕ) → reads (replicate count false) j ≡ false
reads_none zero j = refl
reads_none (suc count) zero = refl
reads_none (suc count) (suc j) = reads_none count j

-- the mask of a query, from one that reads no leaf
pub mask_is : (asked : Asked) (n : Group) (old new : List Bool) → old ≡ replicate (1 + width n) false → length new ≡ length old → IsMarked old (is_needed asked n) new → new ≡ needs asked n
unfolding needs
mask_is asked n old new e same m =
    let count : length new ≡ 1 + width n = same ∙ ap length e ∙ length-replicate (1 + width n) false in
    let at : (j : ℕ) → j ≡ 0 + j = λ j. omega arith in
    is_listed new (is_needed asked n) 0 (1 + width n) count
    (λ j h. m.each j ∙ ap (λ b. b || is_needed asked n j) (ap (λ xs. reads xs j) e ∙ reads_none (1 + width n) j) ∙ ap (is_needed asked n) (at j))

pub needed_are_read : (asked : Asked) (n : Group) → ReadsNeeded asked n (reads (needs asked n))
unfolding needs
needed_are_read asked n j e =
    let at : 0 + j ≡ j = omega arith in
    reads_listed (is_needed asked n) 0 (1 + width n) j (needed_within asked n j e) ∙ ap (λ i. is_needed asked n i) at ∙ e

pub needs_length : (asked : Asked) (n : Group) → length (needs asked n) ≡ 1 + width n
unfolding needs
needs_length asked n = length_listed (is_needed asked n) 0 (1 + width n)
