-- Valid values from valid parts.
use Rattle.std.proofs.Common.{◌≡◌, ◌∙◌, refl, sym, ap, ℕ, Bool, true, false, cond, ◌||◌, List, [], ◌∷◌, map, Ordering, Less, Equal, Greater}
use Rattle.std.specs.Prelude.{bytes_eq}
use Rattle.std.specs.Cmp.{IsTotalOrder}
use Rattle.std.specs.Cmp.Lexicographic.{slice_cmp, texts_ties}
use Rattle.std.specs.List.{AllByRecursion, list_any}
use Rattle.std.specs.List.Sorted.{IsStrictlySortedBy}
use Rattle.std.specs.Ordering.{nat_cmp, is_lt, is_eq, ordering_reverse}
use Rattle.std.specs.Str.{is_utf8}
use Rattle.std.proofs.lemmas.Cmp.{nat_list_cmp_total}
use Rattle.vs_bytes.specs.Names.{repeats}
use Rattle.json_tree.specs.Json.{Json, null, boolean, number, text, array, object, Parts, no_parts, part, Fields, no_fields, field, parts_of, fields_of, names_of}
use Rattle.json_tree.specs.Order.{NamesRise, IsOrdered, AreOrdered, HoldOrdered, inserted, sorted}
use Rattle.json_tree.specs.Valid.{IsValid, AreValid, HoldValid}

abbrev order : List ℕ → List ℕ → Ordering
order = slice_cmp nat_cmp

abbrev names : List (List ℕ × Json) → List (List ℕ)
names ms = names_of (fields_of ms)

turned : (a b : List ℕ) → order a b ≡ ordering_reverse (order b a)
turned a b = let o : IsTotalOrder order = nat_list_cmp_total in o.antisymm a b

-- what holds of a member and of some others holds of them in order

inserted_all : (P : List ℕ → Type 0) (m : List ℕ × Json) (ms : List (List ℕ × Json)) → P m.0 → AllByRecursion P (names ms) → AllByRecursion P (names (inserted m ms))
inserted_all P m [] p h = (p, tt)
inserted_all P m (other ∷ ms) p h = by (is_lt (order m.0 other.0)) (inserted_all P m ms p h.1)
  where
    by : (b : Bool) → AllByRecursion P (names (inserted m ms)) → AllByRecursion P (names (cond b (m ∷ (other ∷ ms)) (other ∷ inserted m ms)))
    by true rest = (p, h)
    by false rest = (h.0, rest)

sorted_all : (P : List ℕ → Type 0) (ms : List (List ℕ × Json)) → AllByRecursion P (names ms) → AllByRecursion P (names (sorted ms))
sorted_all P [] h = tt
sorted_all P (m ∷ ms) h = inserted_all P m (sorted ms) h.0 (sorted_all P ms h.1)

-- names that don't repeat rise

above : (a b : List ℕ) (names : List (List ℕ)) → order a b ≡ Less → AllByRecursion (λ y. order b y ≡ Less) names → AllByRecursion (λ y. order a y ≡ Less) names
above a b [] e h = tt
above a b (name ∷ names) e h = let o : IsTotalOrder order = nat_list_cmp_total in (o.trans a b name e h.0, above a b names e h.1)

inserted_rise : (m : List ℕ × Json) (ms : List (List ℕ × Json)) → AllByRecursion (λ y. order m.0 y ≡ Equal → ⊥) (names ms) → NamesRise (fields_of ms) → NamesRise (fields_of (inserted m ms))
unfolding IsStrictlySortedBy
inserted_rise m [] f h = (tt, tt)
inserted_rise m (other ∷ ms) f h = by (order m.0 other.0) refl (inserted_rise m ms f.1 h.1)
  where
    by : (r : Ordering) → order m.0 other.0 ≡ r → NamesRise (fields_of (inserted m ms)) → NamesRise (fields_of (cond (is_lt r) (m ∷ (other ∷ ms)) (other ∷ inserted m ms)))
    by Less e rest = ((e, above m.0 other.0 (names ms) e h.0), h)
    by Equal e rest = absurd (f.0 e)
    by Greater e rest = (inserted_all (λ y. order other.0 y ≡ Less) m ms (turned other.0 m.0 ∙ ap ordering_reverse e) h.0, rest)

apart : (name : List ℕ) (others : List (List ℕ)) → list_any (λ other. bytes_eq other name) others ≡ false → AllByRecursion (λ y. order name y ≡ Equal → ⊥) others
apart name [] e = tt
apart name (other ∷ others) e = by (bytes_eq other name) refl e (apart name others)
  where
    by : (b : Bool) → bytes_eq other name ≡ b → (b || list_any (λ o. bytes_eq o name) others) ≡ false → (list_any (λ o. bytes_eq o name) others ≡ false → AllByRecursion (λ y. order name y ≡ Equal → ⊥) others) → AllByRecursion (λ y. order name y ≡ Equal → ⊥) (other ∷ others)
    by true f e rest = cc
    by false f e rest = (
      (λ equal.
          let tie : is_eq (order other name) ≡ true = ap is_eq (turned other name ∙ ap ordering_reverse equal) in
          let wrong : true ≡ false = sym tie ∙ sym (texts_ties other name) ∙ f in
          cc),
      rest e,
    )

sorted_rise : (ms : List (List ℕ × Json)) → repeats (map (λ m. m.0) ms) ≡ false → NamesRise (fields_of (sorted ms))
unfolding IsStrictlySortedBy
sorted_rise [] e = tt
sorted_rise (m ∷ ms) e = by (list_any (λ other. bytes_eq other m.0) (map (λ m. m.0) ms)) refl e (sorted_rise ms)
  where
    same : (ms : List (List ℕ × Json)) → map (λ m. m.0) ms ≡ names ms
    same [] = refl
    same (m ∷ ms) = ap (λ rest. m.0 ∷ rest) (same ms)

    by : (b : Bool) → list_any (λ other. bytes_eq other m.0) (map (λ m. m.0) ms) ≡ b → (b || repeats (map (λ m. m.0) ms)) ≡ false → (repeats (map (λ m. m.0) ms) ≡ false → NamesRise (fields_of (sorted ms))) → NamesRise (fields_of (inserted m (sorted ms)))
    by true f e rest = cc
    by false f e rest = inserted_rise m (sorted ms) (sorted_all (λ y. order m.0 y ≡ Equal → ⊥) ms (apart m.0 (names ms) (ap (list_any (λ other. bytes_eq other m.0)) (sym (same ms)) ∙ f))) (rest e)

-- members in order are valid as they were

inserted_valid : (m : List ℕ × Json) (ms : List (List ℕ × Json)) → is_utf8 m.0 ≡ true → IsValid m.1 → HoldValid (fields_of ms) → HoldValid (fields_of (inserted m ms))
inserted_valid m [] u v h = (u, v, tt)
inserted_valid m (other ∷ ms) u v h = by (is_lt (slice_cmp nat_cmp m.0 other.0)) (inserted_valid m ms u v h.2)
  where
    by : (b : Bool) → HoldValid (fields_of (inserted m ms)) → HoldValid (fields_of (cond b (m ∷ (other ∷ ms)) (other ∷ inserted m ms)))
    by true rest = (u, v, h)
    by false rest = (h.0, h.1, rest)

sorted_valid : (ms : List (List ℕ × Json)) → HoldValid (fields_of ms) → HoldValid (fields_of (sorted ms))
sorted_valid [] h = tt
sorted_valid (m ∷ ms) h = inserted_valid m (sorted ms) h.0 h.1 (sorted_valid ms h.2)

pub members_valid : (ms : List (List ℕ × Json)) → repeats (map (λ m. m.0) ms) ≡ false → HoldValid (fields_of ms) → IsValid (object (fields_of (sorted ms)))
members_valid ms e h = (sorted_rise ms e, sorted_valid ms h)

each_holds : (ms : List (List ℕ × Json)) → AllByRecursion (λ m. (is_utf8 m.0 ≡ true) × IsValid m.1) ms → HoldValid (fields_of ms)
each_holds [] h = tt
each_holds (m ∷ ms) h = (h.0.0, h.0.1, each_holds ms h.1)

pub object_valid : (ms : List (List ℕ × Json)) → AllByRecursion (λ m. (is_utf8 m.0 ≡ true) × IsValid m.1) ms → repeats (map (λ m. m.0) ms) ≡ false → IsValid (object (fields_of (sorted ms)))
object_valid ms h e = members_valid ms e (each_holds ms h)

pub array_valid : (js : List Json) → AllByRecursion IsValid js → IsValid (array (parts_of js))
array_valid [] h = tt
array_valid (j ∷ js) h = (h.0, array_valid js h.1)

-- what is valid is in order
mutual
  pub valid_ordered : (j : Json) → IsValid j → IsOrdered j
  valid_ordered null h = tt
  valid_ordered (boolean b) h = tt
  valid_ordered (number d) h = tt
  valid_ordered (text s) h = tt
  valid_ordered (array ps) h = parts_ordered ps h
  valid_ordered (object fs) h = (h.0, fields_ordered fs h.1)

  parts_ordered : (ps : Parts) → AreValid ps → AreOrdered ps
  parts_ordered no_parts h = tt
  parts_ordered (part j ps) h = (valid_ordered j h.0, parts_ordered ps h.1)

  fields_ordered : (fs : Fields) → HoldValid fs → HoldOrdered fs
  fields_ordered no_fields h = tt
  fields_ordered (field name j fs) h = (valid_ordered j h.1, fields_ordered fs h.2)
