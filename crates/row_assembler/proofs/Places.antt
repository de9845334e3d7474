-- Where leaves stand among those that are read.
use Rattle.std.proofs.Common.{◌≡◌, ◌∙◌, refl, sym, ap, subst, ℕ, zero, suc, ◌+◌, ◌-◌, ◌<◌, ◌≤◌, ◌⊎◌, inl, inr, ◌∷◌, [], ◌++◌, List, length, slice_index_or, Bool, true, false, cond, Option, Some, None, arith}
use Rattle.std.specs.Vec.{with_items}
use Rattle.std.specs.declared.vec.Vec.{Vec}
use Rattle.vs_bytes.specs.declared.leaf_columns.Entry.{Entry}
use Rattle.shred_schema.specs.Groups.{Group, width, height}
use Rattle.shred_schema.specs.Lawful.{HasLeaves, IsWellFormed}
use Rattle.shred_schema.specs.Projection.{count_read, place, projected}
use Rattle.shred_schema.specs.Ranges.{reads, none_read}
use Rattle.shred_schema.specs.Views.{group_of}
use Rattle.shred_schema.specs.declared.nodes.Node.{Node}
use Rattle.shred_schema.proofs.LeafRanges.{among_from, among_high}
use Rattle.shred_schema.proofs.NodeFacts.{height_most}
use Rattle.shred_schema.proofs.Projected.{count_most, count_some, height_projected, leaves_projected, place_after, place_next, place_stays}
use Rattle.row_assembler.specs.Assembly.{Assembly, place_in, is_there, IsFor}
use Rattle.row_assembler.specs.KeptAnswers.{IsSound}
use Rattle.row_assembler.specs.ProjectedRows.{meta_width}
use Rattle.row_assembler.proofs.RowsKept.{kept_count}

-- what is read before leaf k, and that leaf, is no more than what is read before a later one
pub place_before : (mask : ℕ → Bool) (k j : ℕ) → k < j → mask k ≡ true → place mask k < place mask j
place_before mask k j less read =
    let split : k + suc (j - (k + 1)) ≡ j = omega arith in
    let all = ap (place mask) (sym split) ∙ place_after mask k (suc (j - (k + 1))) in
    let some : count_read mask k (suc (j - (k + 1))) ≡ suc (count_read mask (k + 1) (j - (k + 1))) = ap (λ (b : Bool). cond b (suc (count_read mask (k + 1) (j - (k + 1)))) (count_read mask (k + 1) (j - (k + 1)))) read in
    omega (arith, all, some)

pub place_below : (mask : ℕ → Bool) (j c : ℕ) → j < c → mask j ≡ true → place mask j < count_read mask 0 c
place_below mask j c less read = place_before mask j c less read

pub place_step : (mask : ℕ → Bool) (k : ℕ) → place mask (k + 1) ≡ cond (mask k) (place mask k + 1) (place mask k)
place_step mask k = by (mask k) refl where
  by : (b : Bool) → mask k ≡ b → place mask (k + 1) ≡ cond b (place mask k + 1) (place mask k)
  by true e = place_next mask k e
  by false e = place_stays mask k e

order : (i j : ℕ) → (i < j → ⊥) → (j < i → ⊥) → i ≡ j
order i j a b = omega (arith, a, b)

pub place_apart : (mask : ℕ → Bool) (i j : ℕ) → mask i ≡ true → mask j ≡ true → place mask i ≡ place mask j → i ≡ j
place_apart mask i j a b same = order i j (λ h. omega (arith, place_before mask i j h a)) (λ h. omega (arith, place_before mask j i h b))

-- what a place says of its leaf
pub record Stands (mask : List Bool) (j p : ℕ) : Type 0 where
  pub read : reads mask j ≡ true
  pub is : place (reads mask) j ≡ p

pub stands : (mask : List Bool) (j p : ℕ) → place_in mask j ≡ Some p → Stands mask j p
stands mask j p h = by (reads mask j) refl h where
  by : (b : Bool) → reads mask j ≡ b → cond b (Some (place (reads mask) j)) None ≡ Some p → Stands mask j p
  by true e g = let same : place (reads mask) j ≡ p = cc in record { read = e; is = same }
  by false e g = cc

-- past the end of a list there is nothing
pub past_end : {A : Type 0} (xs : List A) (j : ℕ) (d : A) → length xs ≤ j → slice_index_or xs j d ≡ d
past_end [] j d h = refl
past_end (x ∷ xs) zero d h = absurd (omega (arith, h))
past_end (x ∷ xs) (suc j) d h = past_end xs j d (omega (arith, h))

pub less_or : (j c : ℕ) → (j < c) ⊎ (c ≤ j)
less_or j c = grind arith

-- a place in the list is that of its leaf
pub listed : (mask : List Bool) (places : List (Option ℕ)) (c j p : ℕ) → length places ≡ c → ((i : ℕ) → i < c → slice_index_or places i None ≡ place_in mask i) → slice_index_or places j None ≡ Some p → (j < c) × Stands mask j p
listed mask places c j p len are is = elim (less_or j c) [
  | inl h ↦ (h, stands mask j p (sym (are j h) ∙ is))
  | inr h ↦ let none : slice_index_or places j None ≡ None = past_end places j None (omega (arith, len, h)) in let no : None ≡ Some p = sym none ∙ is in cc
]

pub listed_inside : (mask : List Bool) (places : List (Option ℕ)) (c j p : ℕ) → length places ≡ c → ((i : ℕ) → i < c → slice_index_or places i None ≡ place_in mask i) → slice_index_or places j None ≡ Some p → p < count_read (reads mask) 0 c
listed_inside mask places c j p len are is =
    let l = listed mask places c j p len are is in
    omega (arith, place_below (reads mask) j c l.0 l.1.read, l.1.is)

pub listed_apart : (mask : List Bool) (places : List (Option ℕ)) (c i j p : ℕ) → length places ≡ c → ((i : ℕ) → i < c → slice_index_or places i None ≡ place_in mask i) → slice_index_or places i None ≡ Some p → slice_index_or places j None ≡ Some p → i ≡ j
listed_apart mask places c i j p len are is also =
    let l = listed mask places c i p len are is in
    let k = listed mask places c j p len are also in
    place_apart (reads mask) i j l.1.read k.1.read (l.1.is ∙ sym k.1.is)

-- one more place at the end of the list
pub one_listed : (mask : List Bool) (xs ys : List (Option ℕ)) (k : ℕ) → length xs ≡ k → ys ≡ xs ++ place_in mask k ∷ [] → ((j : ℕ) → j < k → slice_index_or xs j None ≡ place_in mask j) → (j : ℕ) → j < k + 1 → slice_index_or ys j None ≡ place_in mask j
one_listed mask xs ys k len made are j h = ap (λ zs. slice_index_or zs j None) made ∙ elim (less_or j k) [
  | inl l ↦ in_front xs (place_in mask k ∷ []) j (omega (arith, len, l)) ∙ are j l
  | inr l ↦ let at : j ≡ length xs = omega (arith, len, l, h) in let is : j ≡ k = omega (arith, l, h) in ap (λ i. slice_index_or (xs ++ place_in mask k ∷ []) i None) at ∙ (behind xs (place_in mask k) ∙ ap (place_in mask) (sym is))
]
  where
    in_front : (xs ys : List (Option ℕ)) (j : ℕ) → j < length xs → slice_index_or (xs ++ ys) j None ≡ slice_index_or xs j None
    in_front [] ys j h = absurd (omega (arith, h))
    in_front (x ∷ xs) ys zero h = refl
    in_front (x ∷ xs) ys (suc j) h = in_front xs ys j (omega (arith, h))

    behind : (xs : List (Option ℕ)) (x : Option ℕ) → slice_index_or (xs ++ x ∷ []) (length xs) None ≡ x
    behind [] x = refl
    behind (y ∷ ys) x = behind ys x

pub listed_there : (places : List (Option ℕ)) (j : ℕ) → is_there (slice_index_or places j None) ≡ true → j < length places
listed_there places j h = elim (less_or j (length places)) [
  | inl less ↦ less
  | inr past ↦ let none : is_there (slice_index_or places j None) ≡ false = ap is_there (past_end places j None past) in let no : true ≡ false = sym h ∙ none in cc
]

pub cond_most : (b : Bool) (n k : ℕ) → n ≤ k → cond b (n + 1) n ≤ k + 1
cond_most true n k h = omega (arith, h)
cond_most false n k h = omega (arith, h)

-- a new assembler's places and leaves
pub new_sound : (n : Group) (mask : List Bool) (node : Node) (places : List (Option ℕ)) (leaves : List (List Entry)) → IsWellFormed n → length mask ≡ 1 + width n → none_read (reads mask) 0 (1 + width n) ≡ false → group_of node ≡ projected n 1 (reads mask) → length places ≡ length mask → ((j : ℕ) → j < length mask → slice_index_or places j None ≡ place_in mask j) → length leaves ≡ count_read (reads mask) 0 (length mask) → IsSound (reads mask 0) node places leaves
new_sound n mask node places leaves well len some is also are count =
    let all : length leaves ≡ count_read (reads mask) 0 (1 + width n) = count ∙ ap (count_read (reads mask) 0) len in
    record {
      some = omega (arith, all, count_some (reads mask) 0 (1 + width n) some);
      has_leaves = subst HasLeaves (sym is) (leaves_projected n 1 (reads mask));
      all = all ∙ (kept_count n (reads mask) ∙ ap (λ (g : Group). meta_width (reads mask 0) + width g) (sym is));
      short = omega (arith, all, count_most (reads mask) 0 (1 + width n), well.few);
      deep = omega (arith, ap height is, height_projected n 1 (reads mask), height_most n, well.deep);
      inside = λ j p h. omega (arith, listed_inside mask places (length mask) j p also are h, count);
      apart = λ i j p h g. listed_apart mask places (length mask) i j p also are h g;
    }

pub new_for : (a : Assembly) (o : Bool) (n : Group) (mask : List Bool) → a.optional ≡ o → a.meta ≡ reads mask 0 → group_of a.node ≡ projected n 1 (reads mask) → length mask ≡ 1 + width n → none_read (reads mask) 0 (1 + width n) ≡ false → ((j : ℕ) → j < length mask → slice_index_or a.places j None ≡ place_in mask j) → length a.leaves ≡ count_read (reads mask) 0 (length mask) → IsFor a o n mask
new_for a o n mask optional meta node len some are count = record {
  optional_is = optional;
  meta_is = meta;
  node_is = node;
  places_are = λ j i. are j (omega (arith, among_high j 0 (1 + width n) i, len));
  count = count ∙ ap (count_read (reads mask) 0) len;
  some = some;
}

-- a leaf that the mask reads can be fed
pub read_leaf : (a : Assembly) (o : Bool) (n : Group) (mask : List Bool) (j : ℕ) → IsFor a o n mask → j < 1 + width n → reads mask j ≡ true → is_there (slice_index_or a.places j None) ≡ true
read_leaf a o n mask j f h read = ap is_there (f.places_are j (among_from j 0 (1 + width n) (omega arith) (omega (arith, h))) ∙ ap (λ (b : Bool). cond b (Some (place (reads mask) j)) None) read)

-- leaves that have other entries stand at the same places
same_sound : (meta : Bool) (node : Node) (places : List (Option ℕ)) (before after : List (List Entry)) → length after ≡ length before → IsSound meta node places before → IsSound meta node places after
same_sound meta node places before after same s = record {
  some = omega (arith, same, s.some);
  has_leaves = s.has_leaves;
  all = same ∙ s.all;
  short = omega (arith, same, s.short);
  deep = s.deep;
  inside = λ j p h. omega (arith, same, s.inside j p h);
  apart = s.apart;
}

pub kept_sound : {Z : Type 0} (meta : Bool) (node : Node) (places : List (Option ℕ)) (cursors : Vec (List Entry) Z) (after : List (List Entry)) → IsSound meta node places cursors.items → IsSound meta node places (with_items cursors after).items
kept_sound meta node places cursors after s = same_sound meta node places cursors.items (with_items cursors after).items (sym (with_items cursors after).ok.0 ∙ cursors.ok.0) s

-- one more leaf without entries
pub empty_more : (xs ys : List (List Entry)) (x : List Entry) → ys ≡ xs ++ x ∷ [] → x ≡ [] → ((j : ℕ) → slice_index_or xs j [] ≡ []) → (j : ℕ) → slice_index_or ys j [] ≡ []
empty_more xs ys x made none are j = ap (λ zs. slice_index_or zs j []) made ∙ by xs j are
  where
    by : (zs : List (List Entry)) (i : ℕ) → ((k : ℕ) → slice_index_or zs k [] ≡ []) → slice_index_or (zs ++ x ∷ []) i [] ≡ []
    by [] zero h = none
    by [] (suc i) h = refl
    by (z ∷ zs) zero h = h 0
    by (z ∷ zs) (suc i) h = by zs i (λ k. h (suc k))
