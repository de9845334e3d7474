-- A step into the elements of a list finds under a mask what it finds where each leaf is read.
use Rattle.std.proofs.Common.{◌≡◌, ◌∙◌, refl, sym, ap, ℕ, ◌+◌, ◌<◌, Bool, true, false, ◌||◌, cond, List, [], ◌∷◌, Option, None, Some, Result, Ok}
use Rattle.json_tree.specs.Json.{Json, null, array, parts_of}
use Rattle.vs_bytes.specs.Outcome.{◌>>=◌}
use Rattle.vs_bytes.specs.declared.rule.Rule.{Rule}
use Rattle.query_tree.specs.declared.step.Step.{Step}
use Rattle.path_query.specs.Matches.{matches, at}
use Rattle.shred_schema.specs.Groups.{Group, list_of, slot_width, width}
use Rattle.shred_schema.specs.Lawful.{AreNodes}
use Rattle.shred_schema.specs.Ranges.{is_among, is_any_read, every}
use Rattle.shred_schema.specs.Recs.{Rec, RecPart, empty, cell, fields, items, Recs, no_recs, recs}
use Rattle.shred_schema.specs.declared.nodes.Slot.{Slot}
use Rattle.shred_schema.proofs.ReadLeaves.{any_of_every}
use Rattle.unshredder.specs.Merging.{with_items, element}
use Rattle.unshredder.specs.Seen.{is_tested, items_seen, seen, typed_seen}
use Rattle.unshredder.proofs.Unread.{unread_seen}
use Rattle.chunk_pruning.specs.Needs.{need}
use Rattle.pruning_laws.proofs.Chains.{steps_of}
use Rattle.pruning_laws.proofs.KeepsFields.{FindsSame}
use Rattle.pruning_laws.proofs.KeepsMatches.{AreAlike, AreBare, IsInto, null_matches, arrays_alike, array_bare}
use Rattle.pruning_laws.proofs.KeepsValues.{IsSeen, typed_unread, typed_read, value_alone, shown_same}
use Rattle.pruning_laws.proofs.MoreRead.{either_right, tested_every}

-- The items, one by one.

record ItemSeen (tested : Bool) (node : Rec → Result (Option Json) Rule) (x : Rec) (xs : Recs) (js : List Json) : Type 0 where
  found : Option Json
  first : Json
  more : List Json
  of_node : node x ≡ Ok found
  of_first : element tested found ≡ Ok first
  of_more : items_seen tested node xs ≡ Ok more
  are : first ∷ more ≡ js

item_parts : (tested : Bool) (node : Rec → Result (Option Json) Rule) (x : Rec) (xs : Recs) (js : List Json) → items_seen tested node (recs x xs) ≡ Ok js → ItemSeen tested node x xs js
item_parts tested node x xs js h =
    let rest = items_seen tested node xs in
    let one = steps_of (node x) (λ found. element tested found >>= λ j. rest >>= λ js. Ok (j ∷ js)) js h in
    let two = steps_of (element tested one.value) (λ j. rest >>= λ js. Ok (j ∷ js)) js one.rest in
    let three = steps_of rest (λ js. Ok (two.value ∷ js)) js two.rest in
    record {
      found = one.value;
      first = two.value;
      more = three.value;
      of_node = one.is;
      of_first = two.is;
      of_more = three.is;
      are = let e = three.rest in cc;
    }

-- an element that shows nothing is null
element_null : (tested : Bool) (j : Json) → element tested None ≡ Ok j → j ≡ null
element_null true j h = absurd cc
element_null false j h = let is : null ≡ j = cc in sym is

element_there : (tested : Bool) (i j : Json) → element tested (Some i) ≡ Ok j → j ≡ i
element_there tested i j h = let is : i ≡ j = cc in sym is

-- a path finds in an element what it finds in what its record shows
elements_alike : (steps : List Step) (a b : Bool) (o p : Option Json) (i j : Json) → at steps o ≡ at steps p → element a o ≡ Ok i → element b p ≡ Ok j → matches steps i ≡ matches steps j
elements_alike steps a b None None i j same f g = ap (matches steps) (element_null a i f ∙ sym (element_null b j g))
elements_alike steps a b None (Some y) i j same f g = rw (element_null a i f, element_there b y j g) (null_matches steps y same)
elements_alike steps a b (Some x) None i j same f g = rw (element_there a x i f, element_null b j g) (sym (null_matches steps x (sym same)))
elements_alike steps a b (Some x) (Some y) i j same f g = rw (element_there a x i f, element_there b y j g) same

module _ (steps : List Step) (few all : Rec → Result (Option Json) Rule) where
  items_alike : (a b : Bool) (xs : Recs) (is js : List Json) → ((x : Rec) (o p : Option Json) → few x ≡ Ok o → all x ≡ Ok p → at steps o ≡ at steps p)
      → items_seen a few xs ≡ Ok is → items_seen b all xs ≡ Ok js → AreAlike steps is js
  items_alike a b no_recs is js keep f g = rw (let e : [] ≡ is = cc in sym e, let e : [] ≡ js = cc in sym e) tt
  items_alike a b (recs x xs) is js keep f g =
      let one = item_parts a few x xs is f in
      let two = item_parts b all x xs js g in
      let first = elements_alike steps a b one.found two.found one.first two.first (keep x one.found two.found one.of_node two.of_node) one.of_first two.of_first in
      rw (sym one.are, sym two.are) (first, items_alike a b xs one.more two.more keep one.of_more two.of_more)

-- where a path finds nothing in what records show, it finds nothing in the elements that are tested

bare_element : (steps : List Step) (o : Option Json) (j : Json) → [] ≡ at steps o → element true o ≡ Ok j → [] ≡ matches steps j
bare_element steps None j bare h = absurd cc
bare_element steps (Some i) j bare h = rw (element_there true i j h) bare

items_bare : (steps : List Step) (all : Rec → Result (Option Json) Rule) (xs : Recs) (js : List Json) → ((x : Rec) (o : Option Json) → all x ≡ Ok o → [] ≡ at steps o)
    → items_seen true all xs ≡ Ok js → AreBare steps js
items_bare steps all no_recs js bare h = rw (let e : [] ≡ js = cc in sym e) tt
items_bare steps all (recs x xs) js bare h =
    let one = item_parts true all x xs js h in
    rw (sym one.are) (bare_element steps one.found one.first (bare x one.found one.of_node) one.of_first, items_bare steps all xs one.more bare one.of_more)

-- The list.

pub record IsListSeen (value : Option Json) (found : Result (List Json) Rule) (o : Option Json) : Type 0 where
  pub elements : List Json
  pub alone : value ≡ None
  pub of_items : found ≡ Ok elements
  pub is : o ≡ Some (array (parts_of elements))

pub list_parts : (value : Option Json) (found : Result (List Json) Rule) (o : Option Json) → with_items value found ≡ Ok o → IsListSeen value found o
list_parts None found o h =
    let one = steps_of found (λ js. Ok (Some (array (parts_of js)))) o h in
    record { elements = one.value; alone = refl; of_items = one.is; is = let e : Some (array (parts_of one.value)) ≡ o = let is = one.rest in cc in sym e }
list_parts (Some j) found o h = absurd cc

module _ (mask : ℕ → Bool) (names : List (List ℕ)) (step : Step) (into : IsInto step) (steps : List Step) (keep : FindsSame mask names steps)
    (s : Slot) (n : Group) (k above : ℕ) (v : Option (List ℕ)) (less o : Option Json) (nodes : AreNodes n) where
  abbrev first : ℕ
  first = k + slot_width s

  abbrev Needed : Type 0
  Needed = (j : ℕ) → is_among j k (slot_width s) || need steps n first j ≡ true → mask j ≡ true

  inside_needed : Needed → (j : ℕ) → need steps n first j ≡ true → mask j ≡ true
  inside_needed needs j h = needs j (either_right (is_among j k (slot_width s)) (need steps n first j) h)

  value_needed : Needed → (j : ℕ) → is_among j k (slot_width s) ≡ true → mask j ≡ true
  value_needed needs j h = needs j (rw h refl)

  items_keep : (xs : Recs) → Needed → (few : IsSeen mask names s (list_of n) k above v (items xs) less) (all : IsSeen every names s (list_of n) k above v (items xs) o)
      → IsListSeen all.value (items_seen (is_tested every first n) (seen every names n first (above + 1)) xs) o → at (step ∷ steps) less ≡ at (step ∷ steps) o
  items_keep xs needs few all own = by (is_any_read mask first (width n)) refl few.of_typed
    where
      none : few.value ≡ None
      none = shown_same mask names s (list_of n) k above v (items xs) less o few all (value_needed needs) ∙ own.alone

      by : (r : Bool) → is_any_read mask first (width n) ≡ r
          → cond r (with_items few.value (items_seen (is_tested mask first n) (seen mask names n first (above + 1)) xs)) (Ok few.value) ≡ Ok less → at (step ∷ steps) less ≡ at (step ∷ steps) o
      by true r h =
          let list = list_parts few.value (items_seen (is_tested mask first n) (seen mask names n first (above + 1)) xs) less h in
          let each = items_alike steps (seen mask names n first (above + 1)) (seen every names n first (above + 1)) (is_tested mask first n) (is_tested every first n) xs list.elements own.elements
          (λ x p q f g. keep n first (above + 1) x p q nodes (inside_needed needs) f g) list.of_items own.of_items in
          rw (list.is, own.is) (arrays_alike step steps list.elements own.elements into each)
      by false r h =
          let same : less ≡ None = typed_unread false (Ok few.value) few.value less refl h ∙ none in
          let items : items_seen true (seen every names n first (above + 1)) xs ≡ Ok own.elements =
          ap (λ tested. items_seen tested (seen every names n first (above + 1)) xs) (sym (tested_every first n)) ∙ own.of_items in
          let each = items_bare steps (seen every names n first (above + 1)) xs own.elements
          (λ x q g. keep n first (above + 1) x None q nodes (inside_needed needs) (unread_seen mask names n first (above + 1) x r) g) items in
          rw (same, own.is) (array_bare step steps own.elements into each)

  -- where no items stand, the value is all that shows
  value_keeps : (p : RecPart) (read all_read : Bool) → Needed → (few : IsSeen mask names s (list_of n) k above v p less) (all : IsSeen every names s (list_of n) k above v p o)
      → cond {A = Result (Option Json) Rule} read (Ok few.value) (Ok few.value) ≡ Ok less → cond {A = Result (Option Json) Rule} all_read (Ok all.value) (Ok all.value) ≡ Ok o
      → at (step ∷ steps) less ≡ at (step ∷ steps) o
  value_keeps p read all_read needs few all e f =
      ap (at (step ∷ steps))
      (value_alone read few.value less e ∙ shown_same mask names s (list_of n) k above v p less o few all (value_needed needs) ∙ sym (value_alone all_read all.value o f))

  pub list_keeps : (p : RecPart) → 0 < width n → Needed → IsSeen mask names s (list_of n) k above v p less → IsSeen every names s (list_of n) k above v p o
      → at (step ∷ steps) less ≡ at (step ∷ steps) o
  list_keeps (items xs) some needs few all =
      items_keep xs needs few all (list_parts all.value (items_seen (is_tested every first n) (seen every names n first (above + 1)) xs) o
      (typed_read (is_any_read every first (width n)) (typed_seen every names (list_of n) first above all.value (items xs)) all.value o (any_of_every first (width n) some) all.of_typed))
  list_keeps empty some needs few all = value_keeps empty (is_any_read mask first (width n)) (is_any_read every first (width n)) needs few all few.of_typed all.of_typed
  list_keeps (cell c) some needs few all = value_keeps (cell c) (is_any_read mask first (width n)) (is_any_read every first (width n)) needs few all few.of_typed all.of_typed
  list_keeps (fields xs) some needs few all = value_keeps (fields xs) (is_any_read mask first (width n)) (is_any_read every first (width n)) needs few all few.of_typed all.of_typed
