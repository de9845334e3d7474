-- A step to a field of an object finds under a mask what it finds where each leaf is read.
use Rattle.std.proofs.Common.{◌≡◌, ◌∙◌, refl, sym, ap, subst, ℕ, ◌+◌, ◌<◌, Bool, true, false, not, ◌&&◌, ◌||◌, cond, List, [], ◌∷◌, ◌++◌, Option, None, Some, ◌⊎◌, inl, inr, Result, Ok, Err}
use Rattle.std.specs.Prelude.{is_some}
use Rattle.std.specs.Str.{bytes_eq}
use Rattle.std.proofs.lemmas.Bool.{or_parts}
use Rattle.std.proofs.lemmas.Slice.Eq.{bytes_eq-Decides}
use Rattle.json_tree.specs.Json.{Json, null, boolean, number, text, array, object, Fields, no_fields, fields_of, names_of}
use Rattle.json_tree.specs.Json as json
use Rattle.json_tree.specs.Order.{member_of, sorted}
use Rattle.json_tree.proofs.MembersOrder.{names_in}
use Rattle.vs_bytes.specs.Names.{repeats}
use Rattle.vs_bytes.specs.Outcome.{◌>>=◌}
use Rattle.vs_bytes.specs.declared.rule.Rule.{Rule}
use Rattle.vs_bytes.specs.declared.rule.Rule.TheVariants.{FieldInBoth}
use Rattle.variant_read.specs.Meaning.{means, json_in}
use Rattle.query_tree.specs.declared.step.Step.{Step}
use Rattle.query_tree.specs.declared.step.Step.TheVariants.{Field}
use Rattle.path_query.specs.Matches.{at}
use Rattle.shred_schema.specs.Groups.{Group, Groups, no_groups, field, field_names, slot_width, width, groups_width}
use Rattle.shred_schema.specs.Groups as node
use Rattle.shred_schema.specs.Lawful.{IsObject, EachField, HasEither, MayHold}
use Rattle.shred_schema.specs.Ranges.{is_among, none_read, is_any_read, every}
use Rattle.shred_schema.specs.Recs.{RecPart, empty, cell, fields, items, Recs, no_recs, recs}
use Rattle.shred_schema.specs.declared.nodes.Slot.{Slot}
use Rattle.shred_schema.proofs.ReadLeaves.{any_of_every, none_split}
use Rattle.shredding_laws.proofs.Merged.{members_back}
use Rattle.unshredder.specs.Merging.{pairs_of, is_in_both, left_over, with_fields, without_fields}
use Rattle.unshredder.specs.Seen.{value_seen, typed_seen, fields_seen}
use Rattle.unshredder.proofs.Apart.{AreMembers, seen_are, never_repeats, left_apart}
use Rattle.unshredder.proofs.Unread.{unread_seen}
use Rattle.chunk_pruning.specs.Needs.{need, in_field}
use Rattle.pruning_laws.proofs.Chains.{steps_of}
use Rattle.pruning_laws.proofs.KeepsFields.{is_field, not_field, FindsSame, fields_keep}
use Rattle.pruning_laws.proofs.KeepsMatches.{member_in, at_member}
use Rattle.pruning_laws.proofs.KeepsNames.{object_once}
use Rattle.pruning_laws.proofs.KeepsSorted.{sorted_found, found_first, found_second}
use Rattle.pruning_laws.proofs.KeepsValues.{IsSeen, typed_unread, typed_read, shown_less, shown_same}
use Rattle.pruning_laws.proofs.Stays.{no_object}

-- The members that are left over.

-- the names of an object don't repeat
record IsOnce (value : Option Json) : Type 0 where
  once : (fs : Fields) → value ≡ Some (object fs) → repeats (names_of fs) ≡ false

value_once : (names : List (List ℕ)) (above : ℕ) (read : Bool) (v : Option (List ℕ)) (value : Option Json) → value_seen names above read v ≡ Ok value → IsOnce value
value_once names above read None value h = record { once = λ fs e. absurd (let none : None ≡ value = cc in cc) }
value_once names above false (Some bytes) value h = record { once = λ fs e. absurd (let none : None ≡ value = cc in cc) }
value_once names above true (Some bytes) value h =
    let found = steps_of (json_in (means names bytes above)) (λ j. Ok (Some j)) value h in
    record { once = λ fs e. let same : found.value ≡ object fs = let is = found.rest in cc in object_once names bytes above fs (found.is ∙ ap (λ (j : Json). Ok j) same) }

names_paired : (fs : Fields) → names_in (pairs_of fs) ≡ names_of fs
names_paired no_fields = refl
names_paired (json.field name j fs) = ap (λ (rest : List (List ℕ)). name ∷ rest) (names_paired fs)

-- the members of an object, or none
record IsLeft (value : Option Json) (left : List (List ℕ × Json)) : Type 0 where
  once : IsOnce value → repeats (names_in left) ≡ false
  found : (name : List ℕ) → member_in name value ≡ member_of name (fields_of left)

none_left : (left : List (List ℕ × Json)) → ◌≡◌ {A = Result (List (List ℕ × Json)) Rule} (Ok []) (Ok left) → IsLeft None left
none_left left h = let is : [] ≡ left = cc in subst (IsLeft None) is (record { once = λ once. refl; found = λ name. refl })

members_left : (gs : Groups) (fs : Fields) (left : List (List ℕ × Json)) → cond (is_in_both gs fs) (Err FieldInBoth) (Ok (pairs_of fs)) ≡ Ok left → IsLeft (Some (object fs)) left
members_left gs fs left h = by (is_in_both gs fs) h
  where
    by : (b : Bool) → cond b (Err FieldInBoth) (Ok (pairs_of fs)) ≡ Ok left → IsLeft (Some (object fs)) left
    by true e = absurd cc
    by false e =
        let is : pairs_of fs ≡ left = cc in
        subst (IsLeft (Some (object fs))) is (record {
          once = λ once. ap repeats (names_paired fs) ∙ once.once fs refl;
          found = λ name. ap (member_of name) (sym (members_back fs));
        })

value_left : (gs : Groups) (value : Option Json) (left : List (List ℕ × Json)) → left_over gs value ≡ Ok left → IsLeft value left
value_left gs None left h = none_left left h
value_left gs (Some (object fs)) left h = members_left gs fs left h
value_left gs (Some null) left h = absurd cc
value_left gs (Some (boolean b)) left h = absurd cc
value_left gs (Some (number d)) left h = absurd cc
value_left gs (Some (text s)) left h = absurd cc
value_left gs (Some (array ps)) left h = absurd cc

-- members of no field's name lack each of these names
lacks_field : (name : List ℕ) (gs : Groups) (fs : Fields) → is_field name gs ≡ true → is_in_both gs fs ≡ false → member_of name fs ≡ None
lacks_field name no_groups fs h apart = absurd cc
lacks_field name (field other n gs) fs h apart =
    let parts = or_parts (is_some (member_of other fs)) (is_in_both gs fs) apart in
    by (bytes_eq other name) refl h parts.0 (λ later. lacks_field name gs fs later parts.1)
  where
    none : (o : Option Json) → is_some o ≡ false → o ≡ None
    none None e = refl
    none (Some j) e = absurd cc

    by : (b : Bool) → bytes_eq other name ≡ b → b || is_field name gs ≡ true → is_some (member_of other fs) ≡ false → (is_field name gs ≡ true → member_of name fs ≡ None) → member_of name fs ≡ None
    by true e f own rest = subst (λ (own : List ℕ). member_of own fs ≡ None) ((bytes_eq-Decides other name).0 e) (none (member_of other fs) own)
    by false e f own rest = rest f

-- The members of the whole.

-- a name finds in an object what the fields give, or what is left over
record HasMembers (name : List ℕ) (gs : Groups) (value : Option Json) (given : Result (List (List ℕ × Json)) Rule) (o : Option Json) : Type 0 where
  members : List (List ℕ × Json)
  are : given ≡ Ok members
  own : is_field name gs ≡ true → member_in name o ≡ member_of name (fields_of members)
  apart : is_field name gs ≡ true → member_in name value ≡ None
  other : is_field name gs ≡ false → member_in name o ≡ member_in name value

joined_members : (name : List ℕ) (gs : Groups) (value : Option Json) (left ms : List (List ℕ × Json)) → repeats (field_names gs) ≡ false → IsOnce value
    → left_over gs value ≡ Ok left → AreMembers gs ms → HasMembers name gs value (Ok ms) (Some (object (fields_of (sorted (left ++ ms)))))
joined_members name gs value left ms differ once l are =
    let is = value_left gs value left l in
    let apart = left_apart gs value left l in
    let all = sorted_found name (left ++ ms) (never_repeats gs left ms differ apart (is.once once) are) in
    record {
      members = ms;
      are = refl;
      own = λ there. all ∙ found_second name left ms (lacks_field name gs (fields_of left) there apart);
      apart = λ there. is.found name ∙ lacks_field name gs (fields_of left) there apart;
      other = λ no. all ∙ found_first name left ms (not_field name gs ms no are) ∙ sym (is.found name);
    }

object_members : (name : List ℕ) (gs : Groups) (value : Option Json) (given : Result (List (List ℕ × Json)) Rule) (o : Option Json) → repeats (field_names gs) ≡ false
    → IsOnce value → ((ms : List (List ℕ × Json)) → given ≡ Ok ms → AreMembers gs ms) → with_fields gs value given ≡ Ok o → HasMembers name gs value given o
object_members name gs value given o differ once are h =
    let whole : List (List ℕ × Json) → List (List ℕ × Json) → Option Json = λ left ms. Some (object (fields_of (sorted (left ++ ms)))) in
    let one = steps_of (left_over gs value) (λ left. given >>= λ ms. Ok (whole left ms)) o h in
    let two = steps_of given (λ ms. Ok (whole one.value ms)) o one.rest in
    let is : whole one.value two.value ≡ o = let e = two.rest in cc in
    subst (λ (r : Result (List (List ℕ × Json)) Rule). HasMembers name gs value r o) (sym two.is)
    (subst (HasMembers name gs value (Ok two.value)) is (joined_members name gs value one.value two.value differ once one.is (are two.value two.is)))

-- Where no typed part stands, the value is no object.

no_member : (name : List ℕ) (value o : Option Json) → without_fields value ≡ Ok o → member_in name value ≡ None
no_member name None o h = refl
no_member name (Some (object fs)) o h = absurd cc
no_member name (Some null) o h = refl
no_member name (Some (boolean b)) o h = refl
no_member name (Some (number d)) o h = refl
no_member name (Some (text s)) o h = refl
no_member name (Some (array ps)) o h = refl

alone_either : (read : Bool) (value o : Option Json) → cond read (without_fields value) (Ok value) ≡ Ok o → o ≡ value
alone_either true value o h = sym (no_object value o h)
alone_either false value o h = typed_unread false (Ok value) value o refl h

alone_found : (name : List ℕ) (value less o : Option Json) → (less ≡ value) ⊎ (less ≡ None) → without_fields value ≡ Ok o → member_in name less ≡ member_in name o
alone_found name value less o (inl e) h = ap (member_in name) (e ∙ no_object value o h)
alone_found name value less o (inr e) h = ap (member_in name) e ∙ (sym (no_member name value o h) ∙ ap (member_in name) (no_object value o h))

-- Fields of which no leaf is read give no member.

unread_split : (mask : ℕ → Bool) (k a b : ℕ) → is_any_read mask k (a + b) ≡ false → (is_any_read mask k a ≡ false) × (is_any_read mask (k + a) b ≡ false)
unread_split mask k a b h = by (none_read mask k (a + b)) (none_read mask k a) (none_read mask (k + a) b) (none_split mask k a b) h
  where
    by : (whole left right : Bool) → whole ≡ left && right → not whole ≡ false → (not left ≡ false) × (not right ≡ false)
    by whole true true e f = (refl, refl)
    by whole true false e f = absurd (let wrong : true ≡ false = ap not (sym e) ∙ f in cc)
    by whole false right e f = absurd (let wrong : true ≡ false = ap not (sym e) ∙ f in cc)

fields_unread : (mask : ℕ → Bool) (names : List (List ℕ)) (gs : Groups) (k above : ℕ) (xs : Recs) → is_any_read mask k (groups_width gs) ≡ false → fields_seen mask names gs k above xs ≡ Ok []
fields_unread mask names no_groups k above xs h = refl
fields_unread mask names (field name n gs) k above no_recs h = refl
fields_unread mask names (field name n gs) k above (recs x xs) h =
    let parts = unread_split mask k (width n) (groups_width gs) h in
    rw (unread_seen mask names n k above x parts.0, fields_unread mask names gs (k + width n) above xs parts.1) refl

-- what is needed of a field that the schema doesn't have
other_needed : (inside : Group → ℕ → Bool) (name : List ℕ) (other : Bool) (gs : Groups) (k : ℕ) → is_field name gs ≡ false → in_field inside name other gs k ≡ other
other_needed inside name other no_groups k h = refl
other_needed inside name other (field own n gs) k h =
    let parts = or_parts (bytes_eq own name) (is_field name gs) h in
    rw parts.0 (other_needed inside name other gs (k + width n) parts.1)

module _ (mask : ℕ → Bool) (names : List (List ℕ)) (steps : List Step) (keep : FindsSame mask names steps) (name : List ℕ)
    (s : Slot) (gs : Groups) (k above : ℕ) (v : Option (List ℕ)) (less o : Option Json) where
  abbrev first : ℕ
  first = k + slot_width s

  abbrev Needed : Type 0
  Needed = (j : ℕ) → in_field (λ n m. need steps n m j) name (is_among j k (slot_width s)) gs first ≡ true → mask j ≡ true

  members_found : (xs : Recs) → IsObject gs → EachField HasEither MayHold gs → Needed
      → (few : IsSeen mask names s (node.object_of gs) k above v (fields xs) less) (all : IsSeen every names s (node.object_of gs) k above v (fields xs) o)
      → HasMembers name gs all.value (fields_seen every names gs first (above + 1) xs) o → at steps (member_in name less) ≡ at steps (member_in name o)
  members_found xs is nodes needs few all own = by (is_field name gs) refl (is_any_read mask first (groups_width gs)) refl few.of_typed
    where
      same_value : is_field name gs ≡ false → few.value ≡ all.value
      same_value e =
          shown_same mask names s (node.object_of gs) k above v (fields xs) less o few all
          (λ j inside. needs j (other_needed (λ n m. need steps n m j) name (is_among j k (slot_width s)) gs first e ∙ inside))

      none : HasMembers name gs all.value (fields_seen every names gs first (above + 1) xs) o → (few.value ≡ all.value) ⊎ (few.value ≡ None) → is_field name gs ≡ true → member_in name few.value ≡ None
      none own (inl same) e = ap (member_in name) same ∙ own.apart e
      none own (inr same) e = ap (member_in name) same

      few_members : with_fields gs few.value (fields_seen mask names gs first (above + 1) xs) ≡ Ok less → HasMembers name gs few.value (fields_seen mask names gs first (above + 1) xs) less
      few_members h =
          object_members name gs few.value (fields_seen mask names gs first (above + 1) xs) less is.differ
          (value_once names above (is_any_read mask k (slot_width s)) v few.value few.of_value) (seen_are mask names gs first (above + 1) xs) h

      kept : (few_ms : List (List ℕ × Json)) → fields_seen mask names gs first (above + 1) xs ≡ Ok few_ms
          → at steps (member_of name (fields_of few_ms)) ≡ at steps (member_of name (fields_of own.members))
      kept few_ms f = fields_keep mask names steps keep name gs first (above + 1) xs few_ms own.members nodes is.differ (λ j. is_among j k (slot_width s)) needs f own.are

      by : (b : Bool) → is_field name gs ≡ b → (r : Bool) → is_any_read mask first (groups_width gs) ≡ r
          → cond r (with_fields gs few.value (fields_seen mask names gs first (above + 1) xs)) (Ok few.value) ≡ Ok less → at steps (member_in name less) ≡ at steps (member_in name o)
      by true e true r h = let few_own = few_members h in rw (few_own.own e, own.own e) (kept few_own.members few_own.are)
      by true e false r h =
          let same : less ≡ few.value = typed_unread false (Ok few.value) few.value less refl h in
          rw (same, none own (shown_less mask names s (node.object_of gs) k above v (fields xs) less o few all) e, own.own e) (kept [] (fields_unread mask names gs first (above + 1) xs r))
      by false e true r h = let few_own = few_members h in ap (at steps) (few_own.other e ∙ ap (member_in name) (same_value e) ∙ sym (own.other e))
      by false e false r h =
          let same : less ≡ few.value = typed_unread false (Ok few.value) few.value less refl h in
          ap (at steps) (ap (member_in name) (same ∙ same_value e) ∙ sym (own.other e))

  alone_keeps : (few_value all_value : Option Json) → (few_value ≡ all_value) ⊎ (few_value ≡ None) → less ≡ few_value → without_fields all_value ≡ Ok o
      → at (Field name ∷ steps) less ≡ at (Field name ∷ steps) o
  alone_keeps few_value all_value shown same h =
      rw (at_member name steps less, at_member name steps o) (ap (at steps) (ap (member_in name) same ∙ alone_found name all_value few_value o shown h))

  -- what the typed part of the node shows where each leaf is read
  typed_every : (p : RecPart) → 0 < groups_width gs → (all : IsSeen every names s (node.object_of gs) k above v p o) → typed_seen every names (node.object_of gs) first above all.value p ≡ Ok o
  typed_every p some all =
      typed_read (is_any_read every first (groups_width gs)) (typed_seen every names (node.object_of gs) first above all.value p) all.value o
      (any_of_every first (groups_width gs) some) all.of_typed

  abbrev KeepsPart : RecPart → Type 0
  KeepsPart p = IsSeen mask names s (node.object_of gs) k above v p less → IsSeen every names s (node.object_of gs) k above v p o → at (Field name ∷ steps) less ≡ at (Field name ∷ steps) o

  pub field_keeps : (p : RecPart) → IsObject gs → EachField HasEither MayHold gs → 0 < groups_width gs → Needed → KeepsPart p
  field_keeps (fields xs) is nodes some needs few all =
      let once = value_once names above (is_any_read every k (slot_width s)) v all.value all.of_value in
      let own = object_members name gs all.value (fields_seen every names gs first (above + 1) xs) o is.differ once (seen_are every names gs first (above + 1) xs) (typed_every (fields xs) some all) in
      rw (at_member name steps less, at_member name steps o) (members_found xs is nodes needs few all own)
  field_keeps empty is nodes some needs few all =
      alone_keeps few.value all.value (shown_less mask names s (node.object_of gs) k above v empty less o few all)
      (alone_either (is_any_read mask first (groups_width gs)) few.value less few.of_typed) (typed_every empty some all)
  field_keeps (cell c) is nodes some needs few all =
      alone_keeps few.value all.value (shown_less mask names s (node.object_of gs) k above v (cell c) less o few all)
      (alone_either (is_any_read mask first (groups_width gs)) few.value less few.of_typed) (typed_every (cell c) some all)
  field_keeps (items xs) is nodes some needs few all =
      alone_keeps few.value all.value (shown_less mask names s (node.object_of gs) k above v (items xs) less o few all)
      (alone_either (is_any_read mask first (groups_width gs)) few.value less few.of_typed) (typed_every (items xs) some all)
