-- Entries that go from chunks to the assembler.
use Rattle.std.proofs.Common.{◌≡◌, ◌∙◌, refl, sym, ap, subst, ℕ, zero, suc, ◌+◌, ◌<◌, ◌≤◌, ◌==◌, Bool, true, false, cond, min, List, [], ◌∷◌, ◌++◌, length, length-append, slice_index_or, slice_set, Some, None, eq-eqb, get_or-set_same, get_or-set_other, append_assoc, arith}
use Rattle.std.proofs.lemmas.List.{length-set, get_or_default}
use Rattle.std.proofs.lemmas.Bool.Decides.{nat_tests}
use Rattle.vs_bytes.specs.declared.leaf_columns.Entry.{Entry}
use Rattle.shred_schema.specs.Groups.{Group, width}
use Rattle.shred_schema.specs.Projection.{place}
use Rattle.shred_schema.specs.Ranges.{reads}
use Rattle.shred_schema.proofs.LeafRanges.{among_from}
use Rattle.row_assembler.specs.Assembly.{Assembly, IsFor, IsReadLeaf, is_there, Fed, left}
use Rattle.group_reading.specs.Filling.{joined, Held, TakenFrom, Filled}

pub read_leaf : (a : Assembly) (o : Bool) (n : Group) (mask : List Bool) (j : ℕ) → IsFor a o n mask → j < 1 + width n → reads mask j ≡ true → IsReadLeaf a j
read_leaf a o n mask j for inside read =
    ap is_there (for.places_are j (among_from j 0 (1 + width n) (omega arith) (omega (arith, inside))) ∙ ap (λ b. cond b (Some (place (reads mask) j)) None) read)

apart : (j leaf : ℕ) → (j == leaf) ≡ false → j ≡ leaf → ⊥
apart j leaf differ is = let same : (j == leaf) ≡ true = eq-eqb j leaf is in let no : true ≡ false = sym same ∙ differ in cc

-- what is left where a piece that may have some has none
none_after : (most : ℕ) (x piece rest : List Entry) → 1 ≤ most → x ≡ piece ++ rest → length piece ≡ min most (length x) → length piece ≡ 0 → rest ≡ []
none_after most x piece [] one cut count none = refl
none_after most x piece (e ∷ rest) one cut count none =
    let whole : length x ≡ length piece + length (e ∷ rest) = ap length cut ∙ length-append piece (e ∷ rest) in
    absurd (omega (arith, one, count, none, whole))

pub taken_from : (most : ℕ) (chunks later : List (List Entry)) (leaf : ℕ) (x piece rest : List Entry) → leaf < length chunks → x ≡ slice_index_or chunks leaf x → x ≡ piece ++ rest → length piece ≡ min most (length x) → 1 ≤ most → later ≡ slice_set chunks leaf rest → TakenFrom chunks later leaf piece
taken_from most chunks later leaf x piece rest inside at cut count one set = record {
  count = ap length set ∙ length-set chunks leaf rest;
  here =
      sym (get_or_default chunks leaf x [] inside)
      ∙ (sym at ∙ (cut ∙ ap (λ (xs : List Entry). piece ++ xs) (sym (ap (λ (xs : List (List Entry)). slice_index_or xs leaf []) set ∙ get_or-set_same chunks leaf rest [] inside))));
  others = λ j differ. ap (λ (xs : List (List Entry)). slice_index_or xs j []) set ∙ get_or-set_other chunks leaf j rest [] (apart j leaf differ);
  some = λ none. ap (λ (xs : List (List Entry)). slice_index_or xs leaf []) set ∙ (get_or-set_same chunks leaf rest [] inside ∙ none_after most x piece rest one cut count none);
}

nil_right : (xs ys : List Entry) → xs ++ ys ≡ [] → ys ≡ []
nil_right [] ys h = h
nil_right (x ∷ xs) ys h = absurd cc

pub piece_fed : (a b : Assembly) (chunks later : List (List Entry)) (leaf : ℕ) (piece : List Entry) → TakenFrom chunks later leaf piece → Fed a b leaf piece → Filled a chunks b later
piece_fed a b chunks later leaf piece taken fed = record {
  same = λ j. same j (j == leaf) refl;
  count = taken.count;
  ended = fed.ended;
  stop = fed.stop;
  spent = λ j. spent j (j == leaf) refl;
}
  where
    at_leaf : joined b later leaf ≡ joined a chunks leaf
    at_leaf =
        ap (λ (xs : List Entry). xs ++ slice_index_or later leaf []) fed.here
        ∙ (append_assoc (left a leaf) piece (slice_index_or later leaf [])
        ∙ ap (λ (xs : List Entry). left a leaf ++ xs) (sym taken.here))

    same : (j : ℕ) (c : Bool) → (j == leaf) ≡ c → joined b later j ≡ joined a chunks j
    same j true is = let at : j ≡ leaf = grind (arith, nat_tests) in subst (λ i. joined b later i ≡ joined a chunks i) (sym at) at_leaf
    same j false differ = ap (λ (xs : List Entry). xs ++ slice_index_or later j []) (fed.others j differ) ∙ ap (λ (xs : List Entry). left a j ++ xs) (taken.others j differ)

    spent : (j : ℕ) (c : Bool) → (j == leaf) ≡ c → slice_index_or chunks j [] ≡ [] → slice_index_or later j [] ≡ []
    spent j true is none =
        let at : j ≡ leaf = grind (arith, nat_tests) in
        subst (λ i. slice_index_or later i [] ≡ []) (sym at) (nil_right piece (slice_index_or later leaf []) (sym taken.here ∙ (ap (λ i. slice_index_or chunks i []) (sym at) ∙ none)))
    spent j false differ none = taken.others j differ ∙ none

pub piece_fewer : (chunks later : List (List Entry)) (leaf : ℕ) (piece : List Entry) → TakenFrom chunks later leaf piece → 1 ≤ length (slice_index_or chunks leaf []) → length (slice_index_or later leaf []) < length (slice_index_or chunks leaf [])
piece_fewer chunks later leaf piece taken some = by (length piece) refl
  where
    sum : length (slice_index_or chunks leaf []) ≡ length piece + length (slice_index_or later leaf [])
    sum = ap length taken.here ∙ length-append piece (slice_index_or later leaf [])

    by : (k : ℕ) → length piece ≡ k → length (slice_index_or later leaf []) < length (slice_index_or chunks leaf [])
    by zero none = let rest : length (slice_index_or later leaf []) ≡ 0 = ap length (taken.some none) in omega (arith, sum, none, rest, some)
    by (suc k) is = omega (arith, sum, is)

pub some_left : (chunks : List (List Entry)) (leaf : ℕ) (x : List Entry) → leaf < length chunks → x ≡ slice_index_or chunks leaf x → (x ≡ [] → ⊥) → 1 ≤ length (slice_index_or chunks leaf [])
some_left chunks leaf x inside at some = subst (λ (xs : List Entry). 1 ≤ length xs) (at ∙ get_or_default chunks leaf x [] inside) (by x some)
  where
    by : (xs : List Entry) → (xs ≡ [] → ⊥) → 1 ≤ length xs
    by [] h = absurd (h refl)
    by (x ∷ xs) h = omega arith

pub nothing_filled : (a : Assembly) (chunks : List (List Entry)) → Filled a chunks a chunks
nothing_filled a chunks = record { same = λ j. refl; count = refl; ended = refl; stop = refl; spent = λ j h. h }

pub filled_on : (a b c : Assembly) (chunks later last : List (List Entry)) → Filled a chunks b later → Filled b later c last → Filled a chunks c last
filled_on a b c chunks later last f g = record {
  same = λ j. g.same j ∙ f.same j;
  count = g.count ∙ f.count;
  ended = g.ended ∙ f.ended;
  stop = g.stop ∙ f.stop;
  spent = λ j h. g.spent j (f.spent j h);
}

pub held_on : (o : Bool) (n : Group) (mask : List Bool) (a b : Assembly) (chunks later : List (List Entry)) → Held o n mask a chunks → Filled a chunks b later → IsFor b o n mask → Held o n mask b later
held_on o n mask a b chunks later held filled column = record {
  column = column;
  told = held.told;
  count = filled.count ∙ held.count;
  goes = filled.stop ∙ held.goes;
  spent = λ ended j a y. filled.spent j (held.spent (sym filled.ended ∙ ended) j a y);
}

-- one more leaf is used up
pub spent_more : (mask : List Bool) (before later : List (List Entry)) (leaf : ℕ) → (reads mask leaf ≡ true → slice_index_or later leaf [] ≡ []) → ((j : ℕ) → slice_index_or before j [] ≡ [] → slice_index_or later j [] ≡ []) →
    ((j : ℕ) → j < leaf → reads mask j ≡ true → slice_index_or before j [] ≡ []) → (j : ℕ) → j < leaf + 1 → reads mask j ≡ true → slice_index_or later j [] ≡ []
spent_more mask before later leaf here stays each j below read = by (j == leaf) refl
  where
    by : (c : Bool) → (j == leaf) ≡ c → slice_index_or later j [] ≡ []
    by true is = let at : j ≡ leaf = grind (arith, nat_tests) in subst (λ i. slice_index_or later i [] ≡ []) (sym at) (here (subst (λ i. reads mask i ≡ true) at read))
    by false differ = let less : j < leaf = grind (arith, nat_tests) in stays j (each j less read)
