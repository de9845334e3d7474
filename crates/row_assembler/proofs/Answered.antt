-- Answers in terms of the projected column are answers in terms of the whole one.
use Rattle.std.proofs.Common.{◌≡◌, ◌∙◌, refl, sym, ap, ap₂, subst, ℕ, zero, suc, ◌+◌, ◌<◌, ◌==◌, ◌&&◌, ◌++◌, inl, inr, Bool, true, false, cond, List, [], ◌∷◌, length, slice_index_or, slice_set, Option, Some, None, Result, Ok, Err, OnOk, add-one, eq-eqb, get_or-set_same, get_or-set_other, arith}
use Rattle.std.specs.List.{list_all}
use Rattle.std.specs.Vec.{with_items}
use Rattle.std.specs.declared.vec.Vec.{Vec}
use Rattle.std.proofs.Math.ListN.{length-set}
use Rattle.std.proofs.lemmas.List.{get_or_default, with_items_is}
use Rattle.vs_bytes.specs.declared.leaf_columns.Entry.{Entry}
use Rattle.vs_bytes.specs.declared.refused.Refused.{Refused}
use Rattle.vs_bytes.specs.declared.refused.Refused.TheVariants.{Fault, NoMemory}
use Rattle.vs_bytes.specs.declared.rule.Rule.{Rule}
use Rattle.shred_schema.specs.Groups.{Group, width}
use Rattle.shred_schema.specs.Projection.{count_read, place}
use Rattle.shred_schema.specs.Ranges.{is_among, all_leaves, reads}
use Rattle.shred_schema.specs.Recs.{RowRec}
use Rattle.shred_schema.specs.Shapes.{RowIsOf}
use Rattle.shred_schema.specs.Views.{group_of, row_rec_of}
use Rattle.shred_schema.specs.declared.records.RowRecord.{RowRecord}
use Rattle.shred_schema.proofs.LeafRanges.{among_from, among_high}
use Rattle.shred_schema.proofs.Projected.{tested_at_places}
use Rattle.level_striping.specs.Entries.{row_entries}
use Rattle.record_assembly.specs.Cuts.{first_item, later_items}
use Rattle.record_assembly.specs.Laws.{Have, LeftOfRow}
use Rattle.record_assembly.specs.Reading.{row_read}
use Rattle.record_assembly.specs.Shown.{row_shown}
use Rattle.record_assembly.proofs.Rows.{row_complete, row_sound}
use Rattle.column_assembly.specs.Items.{is_whole}
use Rattle.column_assembly.specs.Leaves.{heads, Passed}
use Rattle.record_taking.proofs.Joined.{goes}
use Rattle.row_assembler.specs.Assembly.{Assembly, at_place, left, next_entries, is_there, Fed, IsFor, has_row, Passes, IsRefused, Answers}
use Rattle.row_assembler.specs.KeptAnswers.{all_whole, row_next, IsKeptRefused, NextKept}
use Rattle.row_assembler.proofs.Places.{place_below, listed_there}
use Rattle.row_assembler.proofs.ReadProjected.{AtPlaces}
use Rattle.row_assembler.proofs.RowsKept.{row_projected}

-- ---- a test on all of a list is a test at each place

shifted : (k c : ℕ) (p : ℕ → Bool) → all_leaves (k + 1) c p ≡ all_leaves k c (λ i. p (i + 1))
shifted k zero p = refl
shifted k (suc c) p = ap (λ b. p (k + 1) && b) (shifted (k + 1) c p)

next_in : {A : Type 0} (x : A) (xs : List A) (i : ℕ) (d : A) → slice_index_or (x ∷ xs) (i + 1) d ≡ slice_index_or xs i d
next_in x xs i d = ap (λ j. slice_index_or (x ∷ xs) j d) (add-one i)

all_alike : (k c : ℕ) (p q : ℕ → Bool) → ((i : ℕ) → p i ≡ q i) → all_leaves k c p ≡ all_leaves k c q
all_alike k zero p q h = refl
all_alike k (suc c) p q h = ap₂ (λ a b. a && b) (h k) (all_alike (k + 1) c p q h)

all_at_places : {A : Type 0} (p : A → Bool) (xs : List A) (d : A) → list_all p xs ≡ all_leaves 0 (length xs) (λ i. p (slice_index_or xs i d))
all_at_places p [] d = refl
all_at_places p (x ∷ xs) d = ap (λ b. p x && b) (all_at_places p xs d ∙ sym (shifted 0 (length xs) (λ i. p (slice_index_or (x ∷ xs) i d)) ∙ all_alike 0 (length xs) (λ i. p (slice_index_or (x ∷ xs) (i + 1) d)) (λ i. p (slice_index_or xs i d)) (λ i. ap p (next_in x xs i d))))

-- ---- the leaves of the whole column

module _ (a : Assembly) (o : Bool) (n : Group) (mask : List Bool) (f : IsFor a o n mask) where
  left_at : AtPlaces (reads mask) 0 (1 + width n) (left a) (λ i. slice_index_or a.leaves i [])
  left_at j i z = sym (ap (at_place a.leaves) (f.places_are j i ∙ ap (λ (b : Bool). cond b (Some (place (reads mask) j)) None) z))

  heads_at : AtPlaces (reads mask) 0 (1 + width n) (next_entries a) (heads 0 a.leaves)
  heads_at j i z = ap (first_item 0) (left_at j i z)

  pub row_is : row_next a ≡ row_read o n (reads mask) 0 (next_entries a)
  row_is = rw (f.meta_is, f.optional_is, f.node_is) (row_projected o n (reads mask) (next_entries a) (heads 0 a.leaves) heads_at)

  pub whole_is : all_whole a ≡ has_row a n mask
  whole_is =
      all_at_places (is_whole a.ended) a.leaves []
      ∙ (ap (λ c. all_leaves 0 c (λ i. is_whole a.ended (slice_index_or a.leaves i []))) f.count
      ∙ tested_at_places (reads mask) 0 (1 + width n) (λ j. is_whole a.ended (left a j)) (λ i. is_whole a.ended (slice_index_or a.leaves i [])) (λ j i z. ap (is_whole a.ended) (left_at j i z)))

  -- the row is what the mask leaves of each row record that has its entries
  module _ (row : RowRec) (h : row_read o n (reads mask) 0 (next_entries a) ≡ Some row) where
    one_has : LeftOfRow o n (reads mask) 0 (next_entries a) row
    one_has =
        let s = row_sound o n (reads mask) 0 (next_entries a) row h in
        record { one = s.one; of = s.of; have = λ j i z. s.agree j (i, z); left = s.is }

    each_gives : (x : RowRec) → RowIsOf o n x → Have (reads mask) 0 (1 + width n) (next_entries a) (row_entries o n 0 x) → row ≡ row_shown n (reads mask) x
    each_gives x of has =
        let other : row_read o n (reads mask) 0 (next_entries a) ≡ Some (row_shown n (reads mask) x) = row_complete o n (reads mask) 0 (next_entries a) x of f.some has in cc

  none_has : row_read o n (reads mask) 0 (next_entries a) ≡ None → (x : RowRec) → RowIsOf o n x → Have (reads mask) 0 (1 + width n) (next_entries a) (row_entries o n 0 x) → ⊥
  none_has h x of has =
      let other : row_read o n (reads mask) 0 (next_entries a) ≡ Some (row_shown n (reads mask) x) = row_complete o n (reads mask) 0 (next_entries a) x of f.some has in
      let no : None ≡ Some (row_shown n (reads mask) x) = sym h ∙ other in cc

  -- leaves that were passed at their places
  passes : (b : Assembly) → b ≡ record a { leaves = b.leaves } → a.stop ≡ None → Passed a.leaves b.leaves 0 (length a.leaves) 0 → Passes a b n mask
  passes b rest going p = record {
    later = λ j i z.
        let low : place (reads mask) j < count_read (reads mask) 0 (1 + width n) = place_below (reads mask) j (1 + width n) (omega (arith, among_high j 0 (1 + width n) i)) z in
        let here : is_among (place (reads mask) j) 0 (length a.leaves) ≡ true = among_from (place (reads mask) j) 0 (length a.leaves) (omega arith) (omega (arith, low, f.count)) in
        let places : b.places ≡ a.places = ap (λ (s : Assembly). s.places) rest in
        let at : slice_index_or a.places j None ≡ Some (place (reads mask) j) = f.places_are j i ∙ ap (λ (c : Bool). cond c (Some (place (reads mask) j)) None) z in
        ap (λ ps. at_place b.leaves (slice_index_or ps j None)) places
        ∙ (ap (at_place b.leaves) at
        ∙ (goes 0 (is_among (place (reads mask) j) 0 (length a.leaves)) (slice_index_or a.leaves (place (reads mask) j) []) (slice_index_or b.leaves (place (reads mask) j) []) here (p.each (place (reads mask) j))
        ∙ ap (later_items 0) (left_at j i z)));
    ended = ap (λ (s : Assembly). s.ended) rest;
    goes = ap (λ (s : Assembly). s.stop) rest ∙ going;
  }

  refused : (refusal : Refused Rule) → IsKeptRefused a refusal → IsRefused a o n mask refusal
  refused (Fault rule) k = (k.0, record { going = k.1.going; whole = sym whole_is ∙ k.1.whole; read = sym row_is ∙ k.1.read; none = none_has (sym row_is ∙ k.1.read) })
  refused NoMemory k = record { going = k.going; whole = sym whole_is ∙ k.whole }

  pub answered : (b : Assembly) (result : Result (Option RowRecord) (Refused Rule)) → NextKept a b result → Answers o n mask a b result
  answered b (Ok None) k = record { going = k.going; whole = sym whole_is ∙ k.whole; same = k.same }
  answered b (Ok (Some row)) k = record {
    going = k.going;
    whole = sym whole_is ∙ k.whole;
    read = sym row_is ∙ k.read;
    left_of = one_has (row_rec_of row) (sym row_is ∙ k.read);
    each = each_gives (row_rec_of row) (sym row_is ∙ k.read);
    passed = passes b k.rest k.going k.passed;
  }
  answered b (Err refusal) k = record { stops = k.stops; why = elim k.why [ inl again ↦ inl again | inr new ↦ inr (refused refusal new) ] }

-- ---- the column stays

pub same_column : (a b : Assembly) (o : Bool) (n : Group) (mask : List Bool) → b.optional ≡ a.optional → b.meta ≡ a.meta → b.node ≡ a.node → b.places ≡ a.places → length b.leaves ≡ length a.leaves → IsFor a o n mask → IsFor b o n mask
same_column a b o n mask optional meta node places count f = record {
  optional_is = optional ∙ f.optional_is;
  meta_is = meta ∙ f.meta_is;
  node_is = ap group_of node ∙ f.node_is;
  places_are = λ j i. ap (λ ps. slice_index_or ps j None) places ∙ f.places_are j i;
  count = count ∙ f.count;
  some = f.some;
}

kept_same : (a b : Assembly) (o : Bool) (n : Group) (mask : List Bool) (c : Assembly) → c.optional ≡ a.optional → c.meta ≡ a.meta → c.node ≡ a.node → c.places ≡ a.places → b ≡ c → length b.leaves ≡ length a.leaves → IsFor a o n mask → IsFor b o n mask
kept_same a b o n mask c optional meta node places is count f =
    same_column a b o n mask (ap (λ (s : Assembly). s.optional) is ∙ optional) (ap (λ (s : Assembly). s.meta) is ∙ meta) (ap (λ (s : Assembly). s.node) is ∙ node) (ap (λ (s : Assembly). s.places) is ∙ places) count f

pub column_kept : (a b : Assembly) (o : Bool) (n : Group) (mask : List Bool) (result : Result (Option RowRecord) (Refused Rule)) → NextKept a b result → IsFor a o n mask → IsFor b o n mask
column_kept a b o n mask (Ok None) k f = subst (λ (s : Assembly). IsFor s o n mask) (sym k.same) f
column_kept a b o n mask (Ok (Some row)) k f = kept_same a b o n mask (record a { leaves = b.leaves }) refl refl refl refl k.rest k.passed.same f
column_kept a b o n mask (Err refusal) k f = kept_same a b o n mask (record a { leaves = b.leaves; stop = b.stop }) refl refl refl refl k.rest k.count f

-- ---- entries that were fed

other_place : (places : List (Option ℕ)) (leaves : List (List Entry)) (i j p : ℕ) (x : List Entry) → ((k : ℕ) → slice_index_or places i None ≡ Some k → slice_index_or places j None ≡ Some k → i ≡ j) → slice_index_or places i None ≡ Some p → (j == i) ≡ false → at_place (slice_set leaves p x) (slice_index_or places j None) ≡ at_place leaves (slice_index_or places j None)
other_place places leaves i j p x apart at differ = by (slice_index_or places j None) refl
  where
    differs : i ≡ j → ⊥
    differs e = let same : (j == i) ≡ true = eq-eqb j i (sym e) in let no : true ≡ false = sym same ∙ differ in cc

    by : (o : Option ℕ) → slice_index_or places j None ≡ o → at_place (slice_set leaves p x) o ≡ at_place leaves o
    by None e = refl
    by (Some q) e =
        let ne : q ≡ p → ⊥ = λ same. differs (apart q (at ∙ ap Some (sym same)) e) in
        get_or-set_other leaves p q x [] ne

pub feeds : (a b : Assembly) (leaf p : ℕ) (more : List Entry) → slice_index_or a.places leaf None ≡ Some p → p < length a.leaves → ((i j k : ℕ) → slice_index_or a.places i None ≡ Some k → slice_index_or a.places j None ≡ Some k → i ≡ j) → b ≡ record a { leaves = slice_set a.leaves p (slice_index_or a.leaves p [] ++ more) } → Fed a b leaf more
feeds a b leaf p more at inside apart is = record {
  here =
      ap (λ (s : Assembly). left s leaf) is
      ∙ (ap (at_place (slice_set a.leaves p (slice_index_or a.leaves p [] ++ more))) at
      ∙ (get_or-set_same a.leaves p (slice_index_or a.leaves p [] ++ more) [] inside
      ∙ ap (λ es. es ++ more) (sym (ap (at_place a.leaves) at))));
  others = λ j differ. ap (λ (s : Assembly). left s j) is ∙ other_place a.places a.leaves leaf j p _ (λ k. apart leaf j k) at differ;
  ended = ap (λ (s : Assembly). s.ended) is;
  stop = ap (λ (s : Assembly). s.stop) is;
}

pub if_ok : {T E : Type 0} (result : Result T E) (P Q : Type 0) → (P → Q) → OnOk result P → OnOk result Q
if_ok (Ok t) P Q f p = f p
if_ok (Err e) P Q f p = tt

-- the same where the fields are seen through the view, and the leaves in a vector
pub feeds_seen : {Z : Type 0} (v a b : Assembly) (cursors : Vec (List Entry) Z) (leaf p : ℕ) (x : Option ℕ) (before after : List (List Entry)) (more : List Entry) → v ≡ a → is_there (slice_index_or a.places leaf None) ≡ true → x ≡ slice_index_or v.places leaf x → x ≡ Some p
    → ((i k : ℕ) → slice_index_or v.places i None ≡ Some k → k < length v.leaves) → ((i j k : ℕ) → slice_index_or v.places i None ≡ Some k → slice_index_or v.places j None ≡ Some k → i ≡ j)
    → before ≡ cursors.items → cursors.items ≡ v.leaves → after ≡ slice_set before p (slice_index_or before p [] ++ more) → b ≡ record v { leaves = (with_items cursors after).items } → Fed a b leaf more
feeds_seen v a b cursors leaf p x before after more seen there at is inside apart same held set now =
    let here : is_there (slice_index_or v.places leaf None) ≡ true = ap (λ (s : Assembly). is_there (slice_index_or s.places leaf None)) seen ∙ there in
    let place : slice_index_or v.places leaf None ≡ Some p = get_or_default v.places leaf None x (listed_there v.places leaf here) ∙ (sym at ∙ is) in
    let len : length after ≡ cursors.len = ap length set ∙ (length-set before p (slice_index_or before p [] ++ more) ∙ (ap length same ∙ sym cursors.ok.0)) in
    let kept : (with_items cursors after).items ≡ slice_set v.leaves p (slice_index_or v.leaves p [] ++ more) = with_items_is cursors after len ∙ (set ∙ ap (λ ls. slice_set ls p (slice_index_or ls p [] ++ more)) (same ∙ held)) in
    subst (λ (s : Assembly). Fed s b leaf more) seen
    (feeds v b leaf p more place (inside leaf p place) apart (now ∙ ap (λ ls. record v { leaves = ls }) kept))
