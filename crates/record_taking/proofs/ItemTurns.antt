-- The items of a list, one after the other: m is the level of the list round which the cursors are cut.
use Rattle.std.proofs.Common.{◌≡◌, ◌∙◌, refl, sym, ap, ℕ, zero, suc, ◌+◌, ◌-◌, ◌<◌, ◌≤◌, nat_lt, Bool, true, false, not, cond, List, [], ◌∷◌, ◌++◌, length, map, slice_index_or, Option, Some, None, append_assoc, append-nil, arith}
use Rattle.std.specs.Option.{option_map}
use Rattle.std.proofs.lemmas.Bool.{lt-ltb}
use Rattle.std.proofs.lemmas.List.{map-append}
use Rattle.vs_bytes.specs.declared.leaf_columns.Entry.{Entry}
use Rattle.shred_schema.specs.Groups.{Group, width}
use Rattle.shred_schema.specs.Ranges.{is_among, every}
use Rattle.shred_schema.specs.Recs.{Rec}
use Rattle.shred_schema.specs.Views.{rec_of}
use Rattle.shred_schema.specs.declared.records.Record.{Record}
use Rattle.shred_schema.proofs.LeafRanges.{among_first, among_rest}
use Rattle.shred_schema.proofs.ReadLeaves.{read_at, fails_at, read_same as tests_same}
use Rattle.record_assembly.specs.Cuts.{until, beyond, first_item, later_items, is_nil}
use Rattle.record_assembly.specs.Laws.{Have}
use Rattle.record_assembly.specs.Reading.{with_item, items_read, longest, are_nil, read}
use Rattle.record_assembly.proofs.Cutting.{Begins}
use Rattle.record_assembly.proofs.NestedCuts.{first_first, later_first, beyond_later}
use Rattle.record_assembly.proofs.Same.{read_same}
use Rattle.record_assembly.proofs.Sound.{nil_sound}
use Rattle.column_assembly.specs.Leaves.{heads, Passed}
use Rattle.column_assembly.proofs.ItemCounts.{bound_same}
use Rattle.record_taking.specs.Parts.{rests, list_read, rest_read}
use Rattle.record_taking.proofs.FirstLeaf.{among_here, read_begins}
use Rattle.record_taking.proofs.Joined.{Between, stays, goes}

-- ---- fewer entries are left after an item

beyond_short : (m : ℕ) (es : List Entry) → length (beyond m es) ≤ length es
beyond_short m [] = omega arith
beyond_short m (e ∷ es) = by (nat_lt m e.rep) (beyond_short m es)
  where
    by : (b : Bool) → length (beyond m es) ≤ length es → length (cond b (beyond m es) (e ∷ es)) ≤ suc (length es)
    by true h = omega (arith, h)
    by false h = omega arith

pub later_short : (m : ℕ) (es : List Entry) → length (later_items m es) ≤ length es - 1
later_short m [] = omega arith
later_short m (e ∷ es) = omega (arith, beyond_short m es)

pub longest_later : (k c m : ℕ) (es : ℕ → List Entry) → longest k c (λ j. later_items m (es j)) ≤ longest k c es - 1
longest_later k zero m es = omega arith
longest_later k (suc c) m es = omega (arith, later_short m (es k), longest_later (k + 1) c m es)

nil_one : (es : List Entry) → length es ≡ 0 → is_nil es ≡ true
nil_one [] h = refl
nil_one (e ∷ es) h = absurd (omega (arith, h))

pub nil_all : (k c : ℕ) (es : ℕ → List Entry) → longest k c es ≡ 0 → are_nil every k c es ≡ true
nil_all k zero es h = refl
nil_all k (suc c) es h = rw (nil_one (es k) (omega (arith, h)), nil_all (k + 1) c es (omega (arith, h))) refl

pub some_left : (k c m : ℕ) (es : ℕ → List Entry) → are_nil every k c (λ j. later_items m (es j)) ≡ false → 1 ≤ longest k c es
some_left k c m es h = by (longest k c es) refl
  where
    by : (n : ℕ) → longest k c es ≡ n → 1 ≤ longest k c es
    by zero is = let all = nil_all k c (λ j. later_items m (es j)) (omega (arith, is, longest_later k c m es)) in let no : true ≡ false = sym all ∙ h in cc
    by (suc n) is = omega (arith, is)

-- ---- the items of a list are the first one and those after it

pub list_step : (n : Group) (k r m d : ℕ) (es : ℕ → List Entry) → list_read n k r m d es ≡ with_item (read n k every r (m + 1) (d + 2) (λ j. first_item (m + 1) (es j))) (rest_read n k m d (λ j. later_items (m + 1) (es j)))
unfolding list_read rest_read
list_step n k r m d es = ap (λ l. with_item (read n k every r (m + 1) (d + 2) (λ j. first_item (m + 1) (es j))) l) (by (are_nil every k (width n) (λ j. later_items (m + 1) (es j))) refl)
  where
    by : (b : Bool) → are_nil every k (width n) (λ j. later_items (m + 1) (es j)) ≡ b
        → cond b (Some []) (items_read (λ a fs. read n k every a (m + 1) (d + 2) fs) (are_nil every k (width n)) (m + 1) (longest k (width n) es) (m + 1) (λ j. later_items (m + 1) (es j)))
        ≡ cond b (Some []) (items_read (λ a fs. read n k every a (m + 1) (d + 2) fs) (are_nil every k (width n)) (m + 1) (suc (longest k (width n) (λ j. later_items (m + 1) (es j)))) (m + 1) (λ j. later_items (m + 1) (es j)))
    by true is = refl
    by false is = bound_same {A = Rec} (λ a fs. read n k every a (m + 1) (d + 2) fs) k (width n) (m + 1) (longest k (width n) es) (suc (longest k (width n) (λ j. later_items (m + 1) (es j)))) (m + 1) (λ j. later_items (m + 1) (es j)) (omega (arith, some_left k (width n) (m + 1) es is, longest_later k (width n) (m + 1) es)) (omega arith)

-- ---- leaves with the same entries

nil_same : (k c : ℕ) (es fs : ℕ → List Entry) → Have every k c es fs → are_nil every k c es ≡ are_nil every k c fs
nil_same k c es fs same = tests_same every k c (λ j. is_nil (es j)) (λ j. is_nil (fs j)) (λ j a y. ap is_nil (same j a y))

longest_same : (k c : ℕ) (es fs : ℕ → List Entry) → Have every k c es fs → longest k c es ≡ longest k c fs
longest_same k zero es fs same = refl
longest_same k (suc c) es fs same =
    let first : length (es k) ≡ length (fs k) = ap length (same k (among_first k c) refl) in
    let later = longest_same (k + 1) c es fs (λ j a y. same j (among_rest j k c a) y) in
    rw (first, later) refl

items_same : (n : Group) (k d m fuel r : ℕ) (es fs : ℕ → List Entry) → Have every k (width n) es fs
    → items_read (λ a gs. read n k every a m d gs) (are_nil every k (width n)) m fuel r es ≡ items_read (λ a gs. read n k every a m d gs) (are_nil every k (width n)) m fuel r fs
items_same n k d m zero r es fs same = refl
items_same n k d m (suc fuel) r es fs same =
    let first = read_same n k every r m d (λ j. first_item m (es j)) (λ j. first_item m (fs j)) (λ j a y. ap (first_item m) (same j a y)) in
    let later : Have every k (width n) (λ j. later_items m (es j)) (λ j. later_items m (fs j)) = λ j a y. ap (later_items m) (same j a y) in
    rw (first, nil_same k (width n) (λ j. later_items m (es j)) (λ j. later_items m (fs j)) later, items_same n k d m fuel m (λ j. later_items m (es j)) (λ j. later_items m (fs j)) later) refl

rest_same : (n : Group) (k m d : ℕ) (es fs : ℕ → List Entry) → Have every k (width n) es fs → rest_read n k m d es ≡ rest_read n k m d fs
unfolding list_read rest_read
rest_same n k m d es fs same =
    rw (nil_same k (width n) es fs same, longest_same k (width n) es fs same)
    (ap (λ l. cond (are_nil every k (width n) fs) (Some []) l) (items_same n k (d + 2) (m + 1) (suc (longest k (width n) fs)) (m + 1) es fs same))

-- ---- the first item

pub list_first : (n : Group) (k r m d : ℕ) (a b : List (List Entry)) (o : Option Rec) → read n k every r (m + 1) (d + 2) (heads (m + 1) a) ≡ o → ((q : Rec) → o ≡ Some q → Passed a b k (width n) (m + 1))
    → list_read n k r m d (heads m a) ≡ with_item o (rest_read n k m d (rests m b))
list_first n k r m d a b o is passed = list_step n k r m d (heads m a) ∙ by o is passed
  where
    first : read n k every r (m + 1) (d + 2) (λ j. first_item (m + 1) (heads m a j)) ≡ read n k every r (m + 1) (d + 2) (heads (m + 1) a)
    first = read_same n k every r (m + 1) (d + 2) (λ j. first_item (m + 1) (heads m a j)) (heads (m + 1) a) (λ j i y. first_first m (m + 1) (slice_index_or a j []) (omega arith))

    rest : Passed a b k (width n) (m + 1) → rest_read n k m d (λ j. later_items (m + 1) (heads m a j)) ≡ rest_read n k m d (rests m b)
    rest p = rest_same n k m d (λ j. later_items (m + 1) (heads m a j)) (rests m b) (λ j i y. later_first m (m + 1) (slice_index_or a j []) (omega arith) ∙ sym (ap (until m) (goes (m + 1) (is_among j k (width n)) _ _ i (p.each j))))

    by : (o : Option Rec) → read n k every r (m + 1) (d + 2) (heads (m + 1) a) ≡ o → ((q : Rec) → o ≡ Some q → Passed a b k (width n) (m + 1)) → with_item (read n k every r (m + 1) (d + 2) (λ j. first_item (m + 1) (heads m a j))) (rest_read n k m d (λ j. later_items (m + 1) (heads m a j))) ≡ with_item o (rest_read n k m d (rests m b))
    by None e f = rw (first, e) refl
    by (Some q) e f = rw (first, e) (ap (with_item (Some q)) (rest (f q refl)))

-- ---- an item after it

-- entries of an item begin above the level of the list
begun_same : (m c : ℕ) (es : List Entry) → Begins (m + 1) (m + 1) c (first_item (m + 1) es) → until m es ≡ first_item m es
begun_same m c [] b = refl
begun_same m c (e ∷ es) b =
    let first : e ∷ until (m + 1) es ≡ b.first ∷ b.rest = b.whole in
    let same : e ≡ b.first = cc in
    let rep : e.rep ≡ m + 1 = ap (λ (x : Entry). x.rep) same ∙ b.rep in
    rw (lt-ltb m e.rep (omega (arith, rep))) refl

rest_begun : (m c : ℕ) (es : List Entry) → Begins (m + 1) (m + 1) c (first_item (m + 1) (until m es)) → until m es ≡ first_item m es
rest_begun m c [] b = refl
rest_begun m c (e ∷ es) b = by (nat_lt m e.rep) refl b
  where
    by : (t : Bool) → nat_lt m e.rep ≡ t → Begins (m + 1) (m + 1) c (first_item (m + 1) (cond t (e ∷ until m es) [])) → cond t (e ∷ until m es) [] ≡ e ∷ until m es
    by true is b = refl
    by false is b = let no : [] ≡ b.first ∷ b.rest = b.whole in cc

inner_first : (m : ℕ) (es : List Entry) → until m es ≡ first_item m es → first_item (m + 1) (until m es) ≡ first_item (m + 1) es
inner_first m es e = ap (first_item (m + 1)) e ∙ first_first m (m + 1) es (omega arith)

inner_later : (m : ℕ) (es : List Entry) → until m es ≡ first_item m es → later_items (m + 1) (until m es) ≡ until m (later_items (m + 1) es)
inner_later m es e = ap (later_items (m + 1)) e ∙ later_first m (m + 1) es (omega arith)

module _ (n : Group) (k m d : ℕ) (a : List (List Entry)) where
  next_item : read n k every (m + 1) (m + 1) (d + 2) (λ j. first_item (m + 1) (rests m a j)) ≡ read n k every (m + 1) (m + 1) (d + 2) (heads (m + 1) a)
  next_item = by (read n k every (m + 1) (m + 1) (d + 2) (λ j. first_item (m + 1) (rests m a j))) (read n k every (m + 1) (m + 1) (d + 2) (heads (m + 1) a)) refl refl
    where
      same : ((j : ℕ) → is_among j k (width n) ≡ true → until m (slice_index_or a j []) ≡ first_item m (slice_index_or a j [])) → read n k every (m + 1) (m + 1) (d + 2) (λ j. first_item (m + 1) (rests m a j)) ≡ read n k every (m + 1) (m + 1) (d + 2) (heads (m + 1) a)
      same h = read_same n k every (m + 1) (m + 1) (d + 2) (λ j. first_item (m + 1) (rests m a j)) (heads (m + 1) a) (λ j i y. inner_first m (slice_index_or a j []) (h j i))

      by : (x y : Option Rec) → read n k every (m + 1) (m + 1) (d + 2) (λ j. first_item (m + 1) (rests m a j)) ≡ x → read n k every (m + 1) (m + 1) (d + 2) (heads (m + 1) a) ≡ y → read n k every (m + 1) (m + 1) (d + 2) (λ j. first_item (m + 1) (rests m a j)) ≡ read n k every (m + 1) (m + 1) (d + 2) (heads (m + 1) a)
      by None None e f = e ∙ sym f
      by (Some q) y e f = same (λ j i. rest_begun m (d + 2) (slice_index_or a j []) (read_begins n k (m + 1) (m + 1) (d + 2) (λ j. first_item (m + 1) (rests m a j)) q e j i))
      by None (Some q) e f = same (λ j i. begun_same m (d + 2) (slice_index_or a j []) (read_begins n k (m + 1) (m + 1) (d + 2) (heads (m + 1) a) q f j i))

  begun : (q : Rec) → read n k every (m + 1) (m + 1) (d + 2) (heads (m + 1) a) ≡ Some q → (j : ℕ) → is_among j k (width n) ≡ true → until m (slice_index_or a j []) ≡ first_item m (slice_index_or a j [])
  begun q f j i = begun_same m (d + 2) (slice_index_or a j []) (read_begins n k (m + 1) (m + 1) (d + 2) (heads (m + 1) a) q f j i)

  not_nil : 1 ≤ width n → not (is_nil (rests m a k)) ≡ true → are_nil every k (width n) (rests m a) ≡ false
  not_nil some e = fails_at k (width n) (λ j. is_nil (rests m a j)) k (among_here k (width n) some) (turned (is_nil (rests m a k)) e)
    where
      turned : (b : Bool) → not b ≡ true → b ≡ false
      turned true h = cc
      turned false h = refl

  opened : are_nil every k (width n) (rests m a) ≡ false → rest_read n k m d (rests m a) ≡ list_read n k (m + 1) m d (rests m a)
  unfolding rest_read
  opened e = rw e refl

  step : are_nil every k (width n) (rests m a) ≡ false → rest_read n k m d (rests m a) ≡ with_item (read n k every (m + 1) (m + 1) (d + 2) (heads (m + 1) a)) (rest_read n k m d (λ j. later_items (m + 1) (rests m a j)))
  step e = opened e ∙ (list_step n k (m + 1) m d (rests m a) ∙ ap (λ o. with_item o (rest_read n k m d (λ j. later_items (m + 1) (rests m a j)))) next_item)

  pub turn_some : (b : List (List Entry)) (q : Rec) → 1 ≤ width n → not (is_nil (rests m a k)) ≡ true → read n k every (m + 1) (m + 1) (d + 2) (heads (m + 1) a) ≡ Some q → Passed a b k (width n) (m + 1) → rest_read n k m d (rests m a) ≡ with_item (Some q) (rest_read n k m d (rests m b))
  turn_some b q some more f p =
      step (not_nil some more) ∙ (ap (λ o. with_item o (rest_read n k m d (λ j. later_items (m + 1) (rests m a j)))) f
      ∙ ap (with_item (Some q)) (rest_same n k m d (λ j. later_items (m + 1) (rests m a j)) (rests m b) (λ j i y. inner_later m (slice_index_or a j []) (begun q f j i) ∙ sym (ap (until m) (goes (m + 1) (is_among j k (width n)) _ _ i (p.each j))))))

  pub turn_none : 1 ≤ width n → not (is_nil (rests m a k)) ≡ true → read n k every (m + 1) (m + 1) (d + 2) (heads (m + 1) a) ≡ None → rest_read n k m d (rests m a) ≡ None
  turn_none some more f = step (not_nil some more) ∙ ap (λ o. with_item o (rest_read n k m d (λ j. later_items (m + 1) (rests m a j)))) f

  -- where the first leaf has no further item, no leaf may have one
  pub turn_end : 1 ≤ width n → not (is_nil (rests m a k)) ≡ false → are_nil every k (width n) (rests m a) ≡ false → rest_read n k m d (rests m a) ≡ None
  turn_end some none rest = opened rest ∙ (list_step n k (m + 1) m d (rests m a) ∙ by (read n k every (m + 1) (m + 1) (d + 2) (λ j. first_item (m + 1) (rests m a j))) refl)
    where
      no_first : (es : List Entry) (c : ℕ) → not (is_nil es) ≡ false → Begins (m + 1) (m + 1) c (first_item (m + 1) es) → ⊥
      no_first [] c h b = let no : [] ≡ b.first ∷ b.rest = b.whole in cc
      no_first (e ∷ es) c h b = cc

      by : (o : Option Rec) → read n k every (m + 1) (m + 1) (d + 2) (λ j. first_item (m + 1) (rests m a j)) ≡ o → with_item (read n k every (m + 1) (m + 1) (d + 2) (λ j. first_item (m + 1) (rests m a j))) (rest_read n k m d (λ j. later_items (m + 1) (rests m a j))) ≡ None
      by None e = ap (λ o. with_item o (rest_read n k m d (λ j. later_items (m + 1) (rests m a j)))) e
      by (Some q) e = absurd (no_first (rests m a k) (d + 2) none (read_begins n k (m + 1) (m + 1) (d + 2) (λ j. first_item (m + 1) (rests m a j)) q e k (among_here k (width n) some)))

  pub turn_last : are_nil every k (width n) (rests m a) ≡ true → rest_read n k m d (rests m a) ≡ Some []
  unfolding rest_read
  turn_last e = rw e refl

  -- the leaves go on between two items
  pub between_more : (old b : List (List Entry)) (q : Rec) → Between old a k (width n) m → read n k every (m + 1) (m + 1) (d + 2) (heads (m + 1) a) ≡ Some q → Passed a b k (width n) (m + 1) → Between old b k (width n) m
  between_more old b q w f p = record {
    same = p.same ∙ w.same;
    out = λ j i. stays (m + 1) (is_among j k (width n)) _ _ i (p.each j) ∙ w.out j i;
    here = λ j i. ap (beyond m) (goes (m + 1) (is_among j k (width n)) _ _ i (p.each j)) ∙ (beyond_later m (m + 1) (slice_index_or a j []) (omega arith) ∙ (inside (slice_index_or a j []) (begun q f j i) ∙ w.here j i));
  }
    where
      inside : (es : List Entry) → until m es ≡ first_item m es → later_items m es ≡ beyond m es
      inside [] h = refl
      inside (e ∷ es) h = cut (nat_lt m e.rep) refl h
        where
          cut : (t : Bool) → nat_lt m e.rep ≡ t → cond t (e ∷ until m es) [] ≡ e ∷ until m es → beyond m es ≡ cond t (beyond m es) (e ∷ es)
          cut true is g = refl
          cut false is g = cc

pub between_first : (n : Group) (k m : ℕ) (a b : List (List Entry)) → Passed a b k (width n) (m + 1) → Between a b k (width n) m
between_first n k m a b p = record {
  same = p.same;
  out = λ j i. stays (m + 1) (is_among j k (width n)) _ _ i (p.each j);
  here = λ j i. ap (beyond m) (goes (m + 1) (is_among j k (width n)) _ _ i (p.each j)) ∙ beyond_later m (m + 1) (slice_index_or a j []) (omega arith);
}

-- where no leaf goes on, the list is taken
pub rests_nil : (k c m : ℕ) (a : List (List Entry)) → are_nil every k c (rests m a) ≡ true → (j : ℕ) → is_among j k c ≡ true → until m (slice_index_or a j []) ≡ []
rests_nil k c m a h j i = nil_sound (until m (slice_index_or a j [])) (read_at every k c (λ x. is_nil (rests m a x)) j h i refl)

-- ---- the items that were taken, before those that are left

abbrev pub onto : List Rec → Option (List Rec) → Option (List Rec)
onto xs o = option_map (λ ys. xs ++ ys) o

pub onto_item : (xs : List Rec) (q : Rec) (o : Option (List Rec)) → onto xs (with_item (Some q) o) ≡ onto (xs ++ q ∷ []) o
onto_item xs q None = refl
onto_item xs q (Some ys) = ap Some (sym (append_assoc xs (q ∷ []) ys))

pub onto_nil : (o : Option (List Rec)) → onto [] o ≡ o
onto_nil None = refl
onto_nil (Some ys) = refl

pub onto_end : (xs : List Rec) → onto xs (Some []) ≡ Some xs
onto_end xs = ap Some (append-nil xs)

-- ---- the test that no leaf goes on, leaf by leaf

is_nil_of : (b : Bool) → not b ≡ false → b ≡ true
is_nil_of true h = refl
is_nil_of false h = cc

pub nil_on : (m at to : ℕ) (a : List (List Entry)) → at < to → not (is_nil (rests m a at)) ≡ false → are_nil every (at + 1) (to - (at + 1)) (rests m a) ≡ are_nil every at (to - at) (rests m a)
nil_on m at to a less none =
    let more : to - at ≡ suc (to - (at + 1)) = omega arith in
    rw (more, is_nil_of (is_nil (rests m a at)) none) refl

-- ---- turns of the loop over the items

first_onto : (x : Rec) (o : Option (List Rec)) → onto (x ∷ []) o ≡ with_item (Some x) o
first_onto x None = refl
first_onto x (Some ys) = refl

pub first_taken : (xs ys : List Record) (x : Record) (o whole : Option (List Rec)) → xs ≡ [] → ys ≡ xs ++ x ∷ [] → whole ≡ with_item (Some (rec_of x)) o → onto (map rec_of ys) o ≡ whole
first_taken xs ys x o whole none made is =
    ap (λ zs. onto (map rec_of zs) o) (made ∙ ap (λ zs. zs ++ x ∷ []) none) ∙ (first_onto (rec_of x) o ∙ sym is)

pub item_taken : (xs ys : List Record) (x : Record) (o p whole : Option (List Rec)) → ys ≡ xs ++ x ∷ [] → o ≡ with_item (Some (rec_of x)) p → onto (map rec_of xs) o ≡ whole → onto (map rec_of ys) p ≡ whole
item_taken xs ys x o p whole made is e =
    ap (λ zs. onto (map rec_of zs) p) made
    ∙ (ap (λ zs. onto zs p) (map-append rec_of xs (x ∷ []))
    ∙ (sym (onto_item (map rec_of xs) (rec_of x) p)
    ∙ (ap (onto (map rec_of xs)) (sym is) ∙ e)))

pub items_taken : (xs : List Record) (o whole : Option (List Rec)) → o ≡ Some [] → onto (map rec_of xs) o ≡ whole → whole ≡ Some (map rec_of xs)
items_taken xs o whole none e = sym e ∙ (ap (onto (map rec_of xs)) none ∙ onto_end (map rec_of xs))

pub items_missing : (xs : List Record) (o whole : Option (List Rec)) → o ≡ None → onto (map rec_of xs) o ≡ whole → whole ≡ None
items_missing xs o whole none e = sym e ∙ ap (onto (map rec_of xs)) none

-- each turn takes an entry of the first leaf
pub shrinks : (m k w : ℕ) (a b : List (List Entry)) → 1 ≤ w → not (is_nil (rests m a k)) ≡ true → Passed a b k w (m + 1) → length (slice_index_or b k []) < length (slice_index_or a k [])
shrinks m k w a b some more p = omega (arith, ap length (goes (m + 1) (is_among k k w) _ _ (among_here k w some) (p.each k)), later_short (m + 1) (slice_index_or a k []), there (slice_index_or a k []) more)
  where
    there : (es : List Entry) → not (is_nil (until m es)) ≡ true → 1 ≤ length es
    there [] h = cc
    there (e ∷ es) h = omega arith
