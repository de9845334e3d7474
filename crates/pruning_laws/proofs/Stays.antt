-- A record that violates no rule violates none under any mask.
use Rattle.std.proofs.Common.{◌≡◌, ◌∙◌, refl, sym, ap, subst, ℕ, zero, suc, ◌+◌, Bool, true, false, true≢false, ◌&&◌, cond, List, [], ◌∷◌, ◌++◌, Option, Some, None, Result, Ok, Err}
use Rattle.std.proofs.lemmas.Bool.{and_parts}
use Rattle.json_tree.specs.Json.{Json, null, boolean, number, text, array, object}
use Rattle.json_tree.specs.Order.{sorted}
use Rattle.variant_read.specs.Trees.{array_of}
use Rattle.variant_read.specs.Trees as trees
use Rattle.vs_bytes.specs.Outcome.{◌>>=◌}
use Rattle.vs_bytes.specs.declared.rule.Rule.{Rule}
use Rattle.shred_schema.specs.Fits.{tree_of}
use Rattle.shred_schema.specs.Groups.{Group, group, Kind, free, scalar, object_of, list_of, Groups, no_groups, field, slot_width, width, kind_width}
use Rattle.shred_schema.specs.Ranges.{is_any_read, every}
use Rattle.shred_schema.specs.Recs.{Rec, rec, RecPart, empty, cell, fields, items, Recs, no_recs, recs}
use Rattle.unshredder.specs.Merging.{left_over, with_cell, with_items, with_fields, without_fields, member, element}
use Rattle.unshredder.specs.Seen.{value_seen, is_part_read, is_tested, items_seen, seen, typed_seen, fields_seen}
use Rattle.pruning_laws.proofs.Chains.{steps_of, Has}
use Rattle.pruning_laws.proofs.MoreRead.{read_every, tested_every}

-- what is seen under a mask, where `o` is seen of all leaves: something or nothing. Where both parts are read, nothing is
-- seen only of nothing
pub record Stays (tested : Bool) (r : Result (Option Json) Rule) (o : Option Json) : Type 0 where
  pub shown : Option Json
  pub is : r ≡ Ok shown
  pub told : tested ≡ true → shown ≡ None → o ≡ None

-- The value.

-- the value, where it is read
abbrev pub kept : Bool → Option Json → Option Json
kept read value = cond read value None

value_kept : (names : List (List ℕ)) (above : ℕ) (read all : Bool) → (read ≡ true → all ≡ true) → (v : Option (List ℕ)) (value : Option Json)
    → value_seen names above all v ≡ Ok value → value_seen names above read v ≡ Ok (kept read value)
value_kept names above true all more v value h = ap (λ b. value_seen names above b v) (sym (more refl)) ∙ h
value_kept names above false all more None value h = refl
value_kept names above false all more (Some bytes) value h = refl

whole_value : (mask : ℕ → Bool) (names : List (List ℕ)) (k count above : ℕ) (v : Option (List ℕ)) (value : Option Json)
    → value_seen names above (is_any_read every k count) v ≡ Ok value → is_part_read mask k count ≡ true → kept (is_any_read mask k count) value ≡ value
whole_value mask names k zero above None value h read = cc
whole_value mask names k zero above (Some bytes) value h read = cc
whole_value mask names k (suc count) above v value h read = ap (λ b. kept b value) read

-- a typed part that counts as read and isn't has no leaf
none_unread : (mask : ℕ → Bool) (k count : ℕ) → is_any_read mask k count ≡ false → is_part_read mask k count ≡ true → is_any_read every k count ≡ false
none_unread mask k zero unread read = refl
none_unread mask k (suc count) unread read = absurd (true≢false (sym read ∙ unread))

-- The kinds of typed parts.

none_kept : (read : Bool) → kept read None ≡ None
none_kept true = refl
none_kept false = refl

not_none : (j : Json) (o : Option Json) → ◌≡◌ {A = Option Json} (Some j) None → o ≡ None
not_none j o h = absurd cc

-- something is seen
some_stays : (tested : Bool) (r : Result (Option Json) Rule) (j : Json) (o : Option Json) → r ≡ Ok (Some j) → Stays tested r o
some_stays tested r j o is = record { shown = Some j; is = is; told = λ t none. not_none j o none }

-- the value alone is seen
alone_stays : (tested read : Bool) (value o : Option Json) (r : Result (Option Json) Rule) → (tested ≡ true → kept read value ≡ value) → value ≡ o → r ≡ Ok (kept read value) → Stays tested r o
alone_stays tested read value o r whole same is = record { shown = kept read value; is = is; told = λ t none. sym same ∙ sym (whole t) ∙ none }

same_value : (value o : Option Json) → ◌≡◌ {A = Result (Option Json) Rule} (Ok value) (Ok o) → value ≡ o
same_value value o h = cc

cell_stays : (tested read : Bool) (value o : Option Json) (j : Json) → with_cell value j ≡ Ok o → Stays tested (with_cell (kept read value) j) o
cell_stays tested read None o j h = some_stays tested (with_cell (kept read None) j) j o (ap (λ v. with_cell v j) (none_kept read))
cell_stays tested read (Some value) o j h = absurd cc

list_stays : (tested read : Bool) (value o : Option Json) (each others : Result (List Json) Rule)
    → with_items value each ≡ Ok o → ((js : List Json) → each ≡ Ok js → Has others) → Stays tested (with_items (kept read value) others) o
list_stays tested read None o (Ok js) others h found =
    let one = found js refl in
    some_stays tested (with_items (kept read None) others) (array_of one.value) o (rw (none_kept read, one.is) refl)
list_stays tested read None o (Err rule) others h found = absurd cc
list_stays tested read (Some value) o each others h found = absurd cc

left_stays : (read : Bool) (gs : Groups) (value : Option Json) (left : List (List ℕ × Json)) → left_over gs value ≡ Ok left → Has (left_over gs (kept read value))
left_stays true gs value left h = record { value = left; is = h }
left_stays false gs value left h = record { value = []; is = refl }

object_stays : (tested read : Bool) (gs : Groups) (value o : Option Json) (each others : Result (List (List ℕ × Json)) Rule)
    → with_fields gs value each ≡ Ok o → ((ms : List (List ℕ × Json)) → each ≡ Ok ms → Has others) → Stays tested (with_fields gs (kept read value) others) o
object_stays tested read gs value o each others h found =
    let first = steps_of (left_over gs value) (λ left. each >>= λ members. Ok (Some (trees.object_of (sorted (left ++ members))))) o h in
    let second = steps_of each (λ members. Ok (Some (trees.object_of (sorted (first.value ++ members))))) o first.rest in
    let left = left_stays read gs value first.value first.is in
    let members = found second.value second.is in
    some_stays tested (with_fields gs (kept read value) others) (trees.object_of (sorted (left.value ++ members.value))) o
    (λ i. left.is i >>= λ before. members.is i >>= λ ms. Ok (Some (trees.object_of (sorted (before ++ ms)))))

pub no_object : (value o : Option Json) → without_fields value ≡ Ok o → value ≡ o
no_object None o h = cc
no_object (Some (object fs)) o h = absurd cc
no_object (Some null) o h = cc
no_object (Some (boolean b)) o h = cc
no_object (Some (number d)) o h = cc
no_object (Some (text s)) o h = cc
no_object (Some (array ps)) o h = cc

still_no_object : (read : Bool) (value o : Option Json) → without_fields value ≡ Ok o → without_fields (kept read value) ≡ Ok (kept read value)
still_no_object true value o h = h ∙ ap (λ v. Ok v) (sym (no_object value o h))
still_no_object false value o h = refl

without_stays : (tested read : Bool) (value o : Option Json) → (tested ≡ true → kept read value ≡ value) → without_fields value ≡ Ok o → Stays tested (without_fields (kept read value)) o
without_stays tested read value o whole h = alone_stays tested read value o (without_fields (kept read value)) whole (no_object value o h) (still_no_object read value o h)

-- Elements.

element_stays : (tested : Bool) (shown o : Option Json) (j : Json) → (tested ≡ true → shown ≡ None → o ≡ None) → element true o ≡ Ok j → Has (element tested shown)
element_stays tested (Some found) o j told h = record { value = found; is = refl }
element_stays false None o j told h = record { value = null; is = refl }
element_stays true None o j told h = absurd (let missing : element true None ≡ Ok j = ap (element true) (sym (told refl refl)) ∙ h in cc)

items_stay : (tested : Bool) (f g : Rec → Result (Option Json) Rule)
    → ((x : Rec) (o : Option Json) → f x ≡ Ok o → Stays tested (g x) o) → (xs : Recs) (js : List Json) → items_seen true f xs ≡ Ok js → Has (items_seen tested g xs)
items_stay tested f g stay no_recs js h = record { value = []; is = refl }
items_stay tested f g stay (recs x xs) js h =
    let first = steps_of (f x) (λ found. element true found >>= λ j. items_seen true f xs >>= λ later. Ok (j ∷ later)) js h in
    let second = steps_of (element true first.value) (λ j. items_seen true f xs >>= λ later. Ok (j ∷ later)) js first.rest in
    let third = steps_of (items_seen true f xs) (λ later. Ok (second.value ∷ later)) js second.rest in
    let one = stay x first.value first.is in
    let j = element_stays tested one.shown first.value second.value one.told second.is in
    let rest = items_stay tested f g stay xs third.value third.is in
    record { value = j.value ∷ rest.value; is = joined (g x) one.shown (element tested one.shown) j.value (items_seen tested g xs) rest.value one.is refl j.is rest.is }
  where
    joined : (r : Result (Option Json) Rule) (o : Option Json) (e : Result Json Rule) (j : Json) (s : Result (List Json) Rule) (js : List Json)
        → r ≡ Ok o → element tested o ≡ e → e ≡ Ok j → s ≡ Ok js → (r >>= λ found. element tested found >>= λ k. s >>= λ later. Ok (k ∷ later)) ≡ Ok (j ∷ js)
    joined r o e j s js is same shown rest = rw (is, same, shown, rest) refl

-- Nodes.

-- both parts of a node, where `typed` and `others` say what the typed part means beside a value
node_stays : (tested_value tested_typed read all keeps : Bool) (typed others : Option Json → Result (Option Json) Rule) (value o : Option Json)
    → (read ≡ true → all ≡ true) → (read ≡ false → tested_typed ≡ true → all ≡ false) → (tested_value ≡ true → kept keeps value ≡ value)
    → cond all (typed value) (Ok value) ≡ Ok o
    → ((tested : Bool) → (tested ≡ true → kept keeps value ≡ value) → typed value ≡ Ok o → Stays tested (others (kept keeps value)) o)
    → Stays (tested_value && tested_typed) (cond read (others (kept keeps value)) (Ok (kept keeps value))) o
node_stays tested_value tested_typed true all keeps typed others value o more none whole h stay =
    let inside : typed value ≡ Ok o = ap (λ b. cond b (typed value) (Ok value)) (sym (more refl)) ∙ h in
    stay (tested_value && tested_typed) (λ t. whole (and_parts tested_value tested_typed t).0) inside
node_stays tested_value tested_typed false all keeps typed others value o more none whole h stay =
    record { shown = kept keeps value; is = refl; told = λ t e. nothing (and_parts tested_value tested_typed t) e }
  where
    nothing : (tested_value ≡ true) × (tested_typed ≡ true) → kept keeps value ≡ None → o ≡ None
    nothing both e =
        let is : value ≡ o = same_value value o (sym (ap (λ b. cond b (typed value) (Ok value)) (none refl both.1)) ∙ h) in
        sym is ∙ sym (whole both.0) ∙ e

-- a node of so many leaves: its value, and the typed part after it
level_stays : (mask : ℕ → Bool) (names : List (List ℕ)) (k a b above : ℕ) (v : Option (List ℕ)) (typed others : Option Json → Result (Option Json) Rule) (o : Option Json)
    → (value_seen names above (is_any_read every k a) v >>= λ value. cond (is_any_read every (k + a) b) (typed value) (Ok value)) ≡ Ok o
    → ((value : Option Json) (tested : Bool) → (tested ≡ true → kept (is_any_read mask k a) value ≡ value) → typed value ≡ Ok o → Stays tested (others (kept (is_any_read mask k a) value)) o)
    → Stays (is_part_read mask k a && is_part_read mask (k + a) b) (value_seen names above (is_any_read mask k a) v >>= λ value. cond (is_any_read mask (k + a) b) (others value) (Ok value)) o
level_stays mask names k a b above v typed others o h stay =
    let first = steps_of (value_seen names above (is_any_read every k a) v) (λ value. cond (is_any_read every (k + a) b) (typed value) (Ok value)) o h in
    let is = value_kept names above (is_any_read mask k a) (is_any_read every k a) (read_every mask k a) v first.value first.is in
    let node = node_stays (is_part_read mask k a) (is_part_read mask (k + a) b) (is_any_read mask (k + a) b) (is_any_read every (k + a) b) (is_any_read mask k a) typed others first.value o
    (read_every mask (k + a) b) (none_unread mask (k + a) b) (whole_value mask names k a above v first.value first.is) first.rest (stay first.value) in
    subst (λ (r : Result (Option Json) Rule). Stays (is_part_read mask k a && is_part_read mask (k + a) b) (r >>= λ value. cond (is_any_read mask (k + a) b) (others value) (Ok value)) o) (sym is) node

module _ (mask : ℕ → Bool) (names : List (List ℕ)) where
  mutual
    pub stays : (n : Group) (k above : ℕ) (x : Rec) (o : Option Json) → seen every names n k above x ≡ Ok o → Stays (is_tested mask k n) (seen mask names n k above x) o
    stays (group s t) k above (rec v p) o h =
        level_stays mask names k (slot_width s) (kind_width t) above v
        (λ value. typed_seen every names t (k + slot_width s) above value p) (λ value. typed_seen mask names t (k + slot_width s) above value p) o h
        (λ value. typed_stays t (k + slot_width s) above p (is_any_read mask k (slot_width s)) value o)

    typed_stays : (t : Kind) (k above : ℕ) (p : RecPart) (read : Bool) (value o : Option Json) (tested : Bool)
        → (tested ≡ true → kept read value ≡ value) → typed_seen every names t k above value p ≡ Ok o → Stays tested (typed_seen mask names t k above (kept read value) p) o
    typed_stays free k above p read value o tested whole h = alone_stays tested read value o (Ok (kept read value)) whole (same_value value o h) refl
    typed_stays (scalar q) k above (cell c) read value o tested whole h = cell_stays tested read value o (tree_of q c) h
    typed_stays (scalar q) k above empty read value o tested whole h = alone_stays tested read value o (Ok (kept read value)) whole (same_value value o h) refl
    typed_stays (scalar q) k above (fields xs) read value o tested whole h = alone_stays tested read value o (Ok (kept read value)) whole (same_value value o h) refl
    typed_stays (scalar q) k above (items xs) read value o tested whole h = alone_stays tested read value o (Ok (kept read value)) whole (same_value value o h) refl
    typed_stays (list_of n) k above (items xs) read value o tested whole h =
        list_stays tested read value o (items_seen (is_tested every k n) (seen every names n k (above + 1)) xs) (items_seen (is_tested mask k n) (seen mask names n k (above + 1)) xs) h
        (λ js e. items_stay (is_tested mask k n) (seen every names n k (above + 1)) (seen mask names n k (above + 1)) (stays n k (above + 1)) xs js
        (ap (λ b. items_seen b (seen every names n k (above + 1)) xs) (sym (tested_every k n)) ∙ e))
    typed_stays (list_of n) k above empty read value o tested whole h = alone_stays tested read value o (Ok (kept read value)) whole (same_value value o h) refl
    typed_stays (list_of n) k above (cell c) read value o tested whole h = alone_stays tested read value o (Ok (kept read value)) whole (same_value value o h) refl
    typed_stays (list_of n) k above (fields xs) read value o tested whole h = alone_stays tested read value o (Ok (kept read value)) whole (same_value value o h) refl
    typed_stays (object_of gs) k above (fields xs) read value o tested whole h =
        object_stays tested read gs value o (fields_seen every names gs k (above + 1) xs) (fields_seen mask names gs k (above + 1) xs) h (fields_stay gs k (above + 1) xs)
    typed_stays (object_of gs) k above empty read value o tested whole h = without_stays tested read value o whole h
    typed_stays (object_of gs) k above (cell c) read value o tested whole h = without_stays tested read value o whole h
    typed_stays (object_of gs) k above (items xs) read value o tested whole h = without_stays tested read value o whole h

    fields_stay : (gs : Groups) (k above : ℕ) (xs : Recs) (ms : List (List ℕ × Json)) → fields_seen every names gs k above xs ≡ Ok ms → Has (fields_seen mask names gs k above xs)
    fields_stay no_groups k above xs ms h = record { value = []; is = refl }
    fields_stay (field name n gs) k above no_recs ms h = record { value = []; is = refl }
    fields_stay (field name n gs) k above (recs x xs) ms h =
        let first = steps_of (seen every names n k above x) (λ found. fields_seen every names gs (k + width n) above xs >>= λ members. Ok (member name found ++ members)) ms h in
        let second = steps_of (fields_seen every names gs (k + width n) above xs) (λ members. Ok (member name first.value ++ members)) ms first.rest in
        let one = stays n k above x first.value first.is in
        let rest = fields_stay gs (k + width n) above xs second.value second.is in
        record { value = member name one.shown ++ rest.value; is = λ i. one.is i >>= λ found. rest.is i >>= λ members. Ok (member name found ++ members) }
