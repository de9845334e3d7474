-- The entries of all leaves, where each chunk gives its leaf's.
use Rattle.std.proofs.Common.{◌≡◌, ◌∙◌, refl, ap, ℕ, zero, suc, ◌+◌, ◌<◌, Bool, true, List, [], ◌∷◌, get_or, Result, Ok, arith}
use Rattle.vs_bytes.specs.Outcome.{◌>>=◌}
use Rattle.vs_bytes.specs.declared.leaf_columns.Entry.{Entry}
use Rattle.vs_bytes.specs.declared.rule.Rule.{Rule}
use Rattle.shred_schema.specs.Ranges.{is_among}
use Rattle.shred_schema.proofs.LeafRanges.{among_first, among_rest}
use Rattle.group_reading.specs.GroupRows.{leaf_seen, leaves_seen}

-- the entries of `count` leaves from leaf k on
abbrev pub listed : (ℕ → List Entry) → ℕ → ℕ → List (List Entry)
listed es k zero = []
listed es k (suc count) = es k ∷ listed es (k + 1) count

listed_at : (es : ℕ → List Entry) (k count i : ℕ) → i < count → get_or (listed es k count) i [] ≡ es (k + i)
listed_at es k zero i h = absurd (omega (arith, h))
listed_at es k (suc count) zero h = let same : k ≡ k + 0 = omega arith in ap es same
listed_at es k (suc count) (suc i) h =
    let same : k + 1 + i ≡ k + suc i = omega arith in
    listed_at es (k + 1) count i (omega (arith, h)) ∙ ap es same

pub leaf_listed : (es : ℕ → List Entry) (count j : ℕ) → j < count → get_or (listed es 0 count) j [] ≡ es j
leaf_listed es count j h = let same : 0 + j ≡ j = omega arith in listed_at es 0 count j h ∙ ap es same

one_leaf : (mask : ℕ → Bool) (chunk : ℕ → Result (List Entry) Rule) (es : ℕ → List Entry) (k : ℕ) → mask k ≡ true → chunk k ≡ Ok (es k) → leaf_seen mask chunk k ≡ Ok (es k)
one_leaf mask chunk es k read given = rw (read, given) refl

pub all_leaves_seen : (mask : ℕ → Bool) (chunk : ℕ → Result (List Entry) Rule) (es : ℕ → List Entry) (k count : ℕ) → ((j : ℕ) → is_among j k count ≡ true → mask j ≡ true) → ((j : ℕ) → is_among j k count ≡ true → chunk j ≡ Ok (es j)) → leaves_seen mask chunk k count ≡ Ok (listed es k count)
unfolding leaves_seen
all_leaves_seen mask chunk es k zero read given = refl
all_leaves_seen mask chunk es k (suc count) read given =
    let first : leaf_seen mask chunk k ≡ Ok (es k) = one_leaf mask chunk es k (read k (among_first k count)) (given k (among_first k count)) in
    let rest : leaves_seen mask chunk (k + 1) count ≡ Ok (listed es (k + 1) count) = all_leaves_seen mask chunk es (k + 1) count (λ j a. read j (among_rest j k count a)) (λ j a. given j (among_rest j k count a)) in
    λ i. first i >>= λ entries. rest i >>= λ later. Ok (entries ∷ later)
