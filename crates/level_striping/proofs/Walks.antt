-- Walks over fields, items and rows: what is left after one more of them, and entries put after others.
use Rattle.std.proofs.Common.{◌≡◌, ◌∙◌, refl, sym, ap, length-drop, ℕ, zero, suc, ◌+◌, ◌-◌, ◌<◌, ◌≤◌, ◌==◌, ◌||◌, Bool, true, false, List, [], ◌∷◌, ◌++◌, length, map, get_or, drop, append_assoc, arith, rules}
use Rattle.std.specs.List.{flat_map}
use Rattle.std.proofs.Math.Seq.{drop-nil}
use Rattle.std.proofs.lemmas.Bool.Decides.{nat_tests}
use Rattle.std.proofs.lemmas.List.{append-nil}
use Rattle.vs_bytes.specs.declared.leaf_columns.Entry.{Entry}
use Rattle.shred_schema.specs.Groups.{Group, list_of, groups_from, width, groups_width, height, groups_height}
use Rattle.shred_schema.specs.Ranges.{is_among}
use Rattle.shred_schema.specs.Recs.{Rec, Recs, no_recs, recs, items, recs_from}
use Rattle.shred_schema.specs.Shapes.{IsOf, FieldsAreOf}
use Rattle.shred_schema.specs.Views.{group_of, named, rec_of, part_of}
use Rattle.shred_schema.specs.declared.nodes.Node.{Node}
use Rattle.shred_schema.specs.declared.records.Part.{the_lemmas}
use Rattle.shred_schema.specs.declared.records.Part.TheVariants as part
use Rattle.shred_schema.specs.declared.records.Record.{Record}
use Rattle.shred_schema.proofs.Viewed.{fields_at, fields_end, recs_at}
use Rattle.level_striping.specs.Counts.{entry_count, fields_count}
use Rattle.level_striping.specs.Entries.{in_leaf, null_at, entries, part_entries, fields_entries}
use Rattle.level_striping.specs.Gains.{Gains}
use Rattle.level_striping.proofs.OwnLeaves.{in_from}

-- the items of a list, as plain data
pub part_is_items : (xs : List Record) → part_of (part.Items xs) ≡ items (recs_from (map rec_of xs))
part_is_items xs = search (rules, the_lemmas)

-- ---- sizes of what is left

pub rest_width : (fs : List (List ℕ × Node)) (k : ℕ) (d : List ℕ × Node) → k < length fs → width (group_of (get_or fs k d).1) + groups_width (groups_from (map named (drop (k + 1) fs))) ≡ groups_width (groups_from (map named (drop k fs)))
rest_width fs k d h = sym (ap groups_width (fields_at fs k d d h))

pub node_height : (fs : List (List ℕ × Node)) (k : ℕ) (d : List ℕ × Node) → k < length fs → height (group_of (get_or fs k d).1) ≤ groups_height (groups_from (map named fs))
node_height [] k d h = absurd (omega arith)
node_height (f ∷ fs) zero d h = omega arith
node_height (f ∷ fs) (suc k) d h = omega (arith, node_height fs k d (omega arith))

-- ---- entries that are put

pub gains_none : (xs : List (List Entry)) → Gains xs xs (λ j. [])
gains_none xs = record { leaves = refl; each = λ j. sym (append-nil (get_or xs j [])) }

pub gains_both : (a b c : List (List Entry)) (f g : ℕ → List Entry) → Gains a b f → Gains b c g → Gains a c (λ j. f j ++ g j)
gains_both a b c f g x y = record {
  leaves = y.leaves ∙ x.leaves;
  each = λ j. y.each j ∙ (ap (λ zs. zs ++ g j) (x.each j) ∙ append_assoc (get_or a j []) (f j) (g j));
}

pub gains_same : (a b : List (List Entry)) (f g : ℕ → List Entry) → ((j : ℕ) → f j ≡ g j) → Gains a b f → Gains a b g
gains_same a b f g h x = record { leaves = x.leaves; each = λ j. x.each j ∙ ap (λ zs. get_or a j [] ++ zs) (h j) }

-- a range of leaves grows by one
one_more : (j from at : ℕ) → from ≤ at → is_among j from (at + 1 - from) ≡ (is_among j from (at - from) || (j == at))
one_more j from at h = grind (arith, nat_tests)

not_both : (j from at : ℕ) → from ≤ at → is_among j from (at - from) ≡ true → (j == at) ≡ false
not_both j from at h = grind (arith, nat_tests)

joined : (a b : Bool) (es : List Entry) → (a ≡ true → b ≡ false) → in_leaf a es ++ in_leaf b es ≡ in_leaf (a || b) es
joined true true es h = let no : true ≡ false = h refl in cc
joined true false es h = append-nil es
joined false b es h = refl

pub nulls_none : (xs : List (List Entry)) (from r d : ℕ) → Gains xs xs (λ j. in_leaf (is_among j from (from - from)) (null_at r d))
nulls_none xs from r d = gains_same xs xs (λ j. []) (λ j. in_leaf (is_among j from (from - from)) (null_at r d)) (λ j. sym (ap (λ b. in_leaf b (null_at r d)) (none j))) (gains_none xs)
  where
    none : (j : ℕ) → is_among j from (from - from) ≡ false
    none j = grind (arith, nat_tests)

pub nulls_more : (a b c : List (List Entry)) (from at r d : ℕ) → from ≤ at → Gains a b (λ j. in_leaf (is_among j from (at - from)) (null_at r d)) → Gains b c (λ j. in_leaf (j == at) (null_at r d)) → Gains a c (λ j. in_leaf (is_among j from (at + 1 - from)) (null_at r d))
nulls_more a b c from at r d h x y =
    gains_same a c (λ j. in_leaf (is_among j from (at - from)) (null_at r d) ++ in_leaf (j == at) (null_at r d)) (λ j. in_leaf (is_among j from (at + 1 - from)) (null_at r d))
    (λ j. joined (is_among j from (at - from)) (j == at) (null_at r d) (not_both j from at h) ∙ sym (ap (λ z. in_leaf z (null_at r d)) (one_more j from at h)))
    (gains_both a b c _ _ x y)

-- ---- walks

-- how far a walk has come: the leaves, with the entries that are left to put, are those that there were, with all of
-- them
pub record Walks (old now : List (List Entry)) (all left : ℕ → List Entry) : Type 0 where
  pub leaves : length now ≡ length old
  pub each : (j : ℕ) → get_or now j [] ++ left j ≡ get_or old j [] ++ all j

pub walk_starts : (xs : List (List Entry)) (all : ℕ → List Entry) → Walks xs xs all all
walk_starts xs all = record { leaves = refl; each = λ j. refl }

pub walk_goes : (old now new : List (List Entry)) (all left more rest : ℕ → List Entry) → Walks old now all left → Gains now new more → ((j : ℕ) → left j ≡ more j ++ rest j) → Walks old new all rest
walk_goes old now new all left more rest w g h = record {
  leaves = g.leaves ∙ w.leaves;
  each = λ j. ap (λ zs. zs ++ rest j) (g.each j) ∙ (append_assoc (get_or now j []) (more j) (rest j) ∙ (ap (λ zs. get_or now j [] ++ zs) (sym (h j)) ∙ w.each j));
}

pub walk_ends : (old now : List (List Entry)) (all left : ℕ → List Entry) → Walks old now all left → ((j : ℕ) → left j ≡ []) → Gains old now all
walk_ends old now all left w h = record {
  leaves = w.leaves;
  each = λ j. sym (append-nil (get_or now j [])) ∙ (ap (λ zs. get_or now j [] ++ zs) (sym (h j)) ∙ w.each j);
}

-- ---- the fields of an object

-- as many fields are left as records
left_records : (fs : List (List ℕ × Node)) (k : ℕ) (d : List ℕ × Node) (xs : Recs) → k < length fs → FieldsAreOf (groups_from (map named (drop k fs))) xs → (xs ≡ no_recs → ⊥)
left_records fs k d no_recs h of e = rw (fields_at fs k d d h) at of
left_records fs k d (recs x xs) h of e = cc

pub record_left : (fs : List (List ℕ × Node)) (xs : List Record) (k : ℕ) (d : List ℕ × Node) → k < length fs → FieldsAreOf (groups_from (map named (drop k fs))) (recs_from (map rec_of (drop k xs))) → k < length xs
record_left fs xs k d h of = by (drop k xs) refl of
  where
    by : (rest : List Record) → drop k xs ≡ rest → FieldsAreOf (groups_from (map named (drop k fs))) (recs_from (map rec_of rest)) → k < length xs
    by [] e o = absurd (left_records fs k d no_recs h o refl)
    by (x ∷ rest) e o = omega (arith, length-drop k xs, ap length e)

-- one field is of its node, and those after it are of theirs
pub fields_next : (fs : List (List ℕ × Node)) (xs : List Record) (k : ℕ) (d : List ℕ × Node) (e : Record) → k < length fs → k < length xs → FieldsAreOf (groups_from (map named (drop k fs))) (recs_from (map rec_of (drop k xs))) → IsOf (group_of (get_or fs k d).1) (rec_of (get_or xs k e)) × FieldsAreOf (groups_from (map named (drop (k + 1) fs))) (recs_from (map rec_of (drop (k + 1) xs)))
fields_next fs xs k d e h i of = rw (fields_at fs k d d h, recs_at xs k e i) at of

pub entries_next : (fs : List (List ℕ × Node)) (xs : List Record) (k : ℕ) (d : List ℕ × Node) (e : Record) (at r m l j : ℕ) → k < length fs → k < length xs → fields_entries (groups_from (map named (drop k fs))) at r m l (recs_from (map rec_of (drop k xs))) j ≡ entries (group_of (get_or fs k d).1) at r m l (rec_of (get_or xs k e)) j ++ fields_entries (groups_from (map named (drop (k + 1) fs))) (at + width (group_of (get_or fs k d).1)) r m l (recs_from (map rec_of (drop (k + 1) xs))) j
entries_next fs xs k d e at r m l j h i = rw (fields_at fs k d d h, recs_at xs k e i) refl

-- where no field is left, no leaf is and no entry
pub width_done : (fs : List (List ℕ × Node)) (k : ℕ) → length fs ≤ k → groups_width (groups_from (map named (drop k fs))) ≡ 0
width_done fs k h = ap groups_width (fields_end fs k h)

pub entries_done : (fs : List (List ℕ × Node)) (k : ℕ) (xs : Recs) (at r m l j : ℕ) → length fs ≤ k → fields_entries (groups_from (map named (drop k fs))) at r m l xs j ≡ []
entries_done fs k xs at r m l j h = rw (fields_end fs k h) refl

-- ---- the items of a list

-- a list of which the first item is put, and then the later ones
pub list_gains : (old mid new : List (List Entry)) (n : Group) (k r m d : ℕ) (x : Record) (xs : List Record) (left : ℕ → List Entry) → Gains old mid (entries n k r (m + 1) (d + 2) (rec_of x)) → Walks mid new (λ j. flat_map (λ y. entries n k (m + 1) (m + 1) (d + 2) y j) (map rec_of xs)) left → ((j : ℕ) → left j ≡ []) → Gains old new (part_entries (list_of n) k r m d (items (recs_from (map rec_of (x ∷ xs)))))
list_gains old mid new n k r m d x xs left first later none =
    gains_same old new (λ j. entries n k r (m + 1) (d + 2) (rec_of x) j ++ flat_map (λ y. entries n k (m + 1) (m + 1) (d + 2) y j) (map rec_of xs)) (part_entries (list_of n) k r m d (items (recs_from (map rec_of (x ∷ xs)))))
    (λ j. ap (λ ys. entries n k r (m + 1) (d + 2) (rec_of x) j ++ flat_map (λ y. entries n k (m + 1) (m + 1) (d + 2) y j) ys) (sym (in_from (map rec_of xs))))
    (gains_both old mid new _ _ first (walk_ends mid new _ left later none))

pub items_done : (g : Rec → List Entry) (xs : List Record) (k : ℕ) → length xs ≤ k → flat_map g (map rec_of (drop k xs)) ≡ []
items_done g [] k h = rw (drop-nil k) refl
items_done g (x ∷ xs) zero h = absurd (omega arith)
items_done g (x ∷ xs) (suc k) h = items_done g xs k (omega arith)

-- ---- counts

pub count_next : (fs : List (List ℕ × Node)) (xs : List Record) (k : ℕ) (d : List ℕ × Node) (e : Record) → k < length fs → k < length xs → fields_count (groups_from (map named (drop k fs))) (recs_from (map rec_of (drop k xs))) ≡ entry_count (group_of (get_or fs k d).1) (rec_of (get_or xs k e)) + fields_count (groups_from (map named (drop (k + 1) fs))) (recs_from (map rec_of (drop (k + 1) xs)))
count_next fs xs k d e h i = rw (fields_at fs k d d h, recs_at xs k e i) refl

pub count_done : (fs : List (List ℕ × Node)) (k : ℕ) (xs : Recs) → length fs ≤ k → fields_count (groups_from (map named (drop k fs))) xs ≡ 0
count_done fs k xs h = rw (fields_end fs k h) refl
