-- The dictionary of a value: the one list that rises and has the names of all its objects.
use Rattle.std.proofs.Common.{◌≡◌, ◌↔◌, inl, inr, refl, ℕ, ◌+◌, ◌≤◌, Bool, true, false, cond, ◌&&◌, List, [], ◌∷◌, ◌++◌, length, length-append, Contains, arith}
use Rattle.std.specs.List.{concat, list_all}
use Rattle.std.specs.Str.{is_utf8}
use Rattle.json_tree.specs.Json.{Json, null, boolean, number, text, array, object, Parts, no_parts, part, Fields, no_fields, field}
use Rattle.json_tree.specs.Text.{text_of}
use Rattle.json_tree.specs.Valid.{IsValid, AreValid, HoldValid}
use Rattle.variant_meta.specs.Dictionaries.{IsDictionary}
use Rattle.variant_meta.specs.Names.{is_before, names_rise}
use Rattle.variant_write.specs.Conditions.{max_text_len, HasNames, ElementsHaveNames, FieldsHaveNames}
use Rattle.variant_write.specs.Dictionaries.{object_names, elements_names, fields_names, added, each_once, dictionary}
use Rattle.variant_write.proofs.NameLimits.{names_few, names_small}
use Rattle.variant_write.proofs.NamesAmong.{Among, among_from_contains, contains_from_among, among_left, among_right, has_name}
use Rattle.variant_write.proofs.Rising.{once_rises, once_keeps, once_only, once_is}

-- ---- a list of all names of a value has them

mutual
  pub names_held : (names : List (List ℕ)) (j : Json) → ((x : List ℕ) → Among x (object_names j) → Among x names) → HasNames names j
  names_held names null all = tt
  names_held names (boolean b) all = tt
  names_held names (number d) all = tt
  names_held names (text s) all = tt
  names_held names (array elements) all = elements_held names elements all
  names_held names (object fields) all = fields_held names fields all

  pub elements_held : (names : List (List ℕ)) (elements : Parts) → ((x : List ℕ) → Among x (elements_names elements) → Among x names) → ElementsHaveNames names elements
  elements_held names no_parts all = tt
  elements_held names (part j elements) all =
      (names_held names j (λ x a. all x (among_left (object_names j) (elements_names elements) x a)), elements_held names elements (λ x a. all x (among_right (object_names j) (elements_names elements) x a)))

  pub fields_held : (names : List (List ℕ)) (fields : Fields) → ((x : List ℕ) → Among x (fields_names fields) → Among x names) → FieldsHaveNames names fields
  fields_held names no_fields all = tt
  fields_held names (field name j fields) all =
      (has_name names name (all name (inl refl)), names_held names j (λ x a. all x (inr (among_left (object_names j) (fields_names fields) x a))), fields_held names fields (λ x a. all x (inr (among_right (object_names j) (fields_names fields) x a))))

pub dictionary_has : (j : Json) → HasNames (dictionary j) j
unfolding dictionary
dictionary_has j = names_held (each_once (object_names j)) j (once_keeps (object_names j))

pub dictionary_rises : (j : Json) → names_rise (dictionary j) ≡ true
unfolding dictionary
dictionary_rises j = once_rises (object_names j)

pub dictionary_same : (j : Json) (x : List ℕ) → Contains (dictionary j) x ↔ Contains (object_names j) x
unfolding dictionary
dictionary_same j x = (
  λ a. contains_from_among (object_names j) x (once_only (object_names j) x (among_from_contains (each_once (object_names j)) x a)),
  λ a. contains_from_among (each_once (object_names j)) x (once_keeps (object_names j) x (among_from_contains (object_names j) x a)),
)

-- the same of names that were gathered: `names` has the names of all objects of the value, and a dictionary has
-- these elements
pub gathered_has : (names gathered : List (List ℕ)) (j : Json) → ((x : List ℕ) → Contains names x ↔ Contains gathered x) → ((x : List ℕ) → Among x (object_names j) → Among x gathered) → HasNames names j
gathered_has names gathered j same all = names_held names j (λ x a. among_from_contains names x ((same x).1 (contains_from_among gathered x (all x a))))

pub gathered_is : (names gathered : List (List ℕ)) (j : Json) → names_rise names ≡ true → ((x : List ℕ) → Contains names x ↔ Contains gathered x) → ((x : List ℕ) → Among x (object_names j) → Among x gathered) → ((x : List ℕ) → Among x gathered → Among x (object_names j)) → names ≡ dictionary j
unfolding dictionary
gathered_is names gathered j rise same all only =
    once_is (object_names j) names rise (λ x a. only x (among_from_contains gathered x ((same x).0 (contains_from_among names x a)))) (λ x a. among_from_contains names x ((same x).1 (contains_from_among gathered x (all x a))))

pub dictionary_one : (names : List (List ℕ)) (j : Json) → names_rise names ≡ true → ((x : List ℕ) → Contains names x ↔ Contains (object_names j) x) → names ≡ dictionary j
dictionary_one names j rise same = gathered_is names (object_names j) j rise same (λ x a. a) (λ x a. a)

-- ---- the dictionary of a short value is within the bounds

added_few : (name : List ℕ) (names : List (List ℕ)) → length (added name names) ≤ 1 + length names
added_few name [] = omega arith
added_few name (other ∷ names) = by (is_before name other) (is_before other name) (added_few name names)
  where
    by : (b c : Bool) → length (added name names) ≤ 1 + length names → length (cond b (name ∷ (other ∷ names)) (cond c (other ∷ added name names) (other ∷ names))) ≤ 1 + length (other ∷ names)
    by true c h = omega arith
    by false true h = omega (arith, h)
    by false false h = omega arith

added_short : (name : List ℕ) (names : List (List ℕ)) → length (concat (added name names)) ≤ length name + length (concat names)
added_short name [] = omega (arith, length-append name [])
added_short name (other ∷ names) = by (is_before name other) (is_before other name) (added_short name names)
  where
    by : (b c : Bool) → length (concat (added name names)) ≤ length name + length (concat names) → length (concat (cond b (name ∷ (other ∷ names)) (cond c (other ∷ added name names) (other ∷ names)))) ≤ length name + length (concat (other ∷ names))
    by true c h = omega (arith, length-append name (concat (other ∷ names)))
    by false true h = omega (arith, h, length-append other (concat (added name names)), length-append other (concat names))
    by false false h = omega arith

once_few : (names : List (List ℕ)) → length (each_once names) ≤ length names
once_few [] = omega arith
once_few (name ∷ names) = omega (arith, added_few name (each_once names), once_few names)

once_short : (names : List (List ℕ)) → length (concat (each_once names)) ≤ length (concat names)
once_short [] = omega arith
once_short (name ∷ names) = omega (arith, added_short name (each_once names), once_short names, length-append name (concat names))

pub dictionary_within : (j : Json) → length (text_of j) ≤ max_text_len → IsDictionary (dictionary j)
unfolding dictionary
dictionary_within j h = record {
  rising = once_rises (object_names j);
  few = omega (arith, once_few (object_names j), names_few j h);
  small = omega (arith, once_short (object_names j), names_small j h);
}

-- ---- the names of a valid value are UTF-8

all_joined : (xs ys : List (List ℕ)) → list_all is_utf8 xs ≡ true → list_all is_utf8 ys ≡ true → list_all is_utf8 (xs ++ ys) ≡ true
all_joined [] ys h g = g
all_joined (x ∷ xs) ys h g = by (is_utf8 x) h (all_joined xs ys)
  where
    by : (b : Bool) → (b && list_all is_utf8 xs) ≡ true → (list_all is_utf8 xs ≡ true → list_all is_utf8 ys ≡ true → list_all is_utf8 (xs ++ ys) ≡ true) → (b && list_all is_utf8 (xs ++ ys)) ≡ true
    by true e more = more e g
    by false e more = e

mutual
  pub names_utf8 : (j : Json) → IsValid j → list_all is_utf8 (object_names j) ≡ true
  names_utf8 null valid = refl
  names_utf8 (boolean b) valid = refl
  names_utf8 (number d) valid = refl
  names_utf8 (text s) valid = refl
  names_utf8 (array elements) valid = elements_utf8 elements valid
  names_utf8 (object fields) valid = fields_utf8 fields valid.1

  elements_utf8 : (elements : Parts) → AreValid elements → list_all is_utf8 (elements_names elements) ≡ true
  elements_utf8 no_parts valid = refl
  elements_utf8 (part j elements) valid = all_joined (object_names j) (elements_names elements) (names_utf8 j valid.0) (elements_utf8 elements valid.1)

  fields_utf8 : (fields : Fields) → HoldValid fields → list_all is_utf8 (fields_names fields) ≡ true
  fields_utf8 no_fields valid = refl
  fields_utf8 (field name j fields) valid = rw valid.0 (all_joined (object_names j) (fields_names fields) (names_utf8 j valid.1) (fields_utf8 fields valid.2))

added_all : (name : List ℕ) (names : List (List ℕ)) → is_utf8 name ≡ true → list_all is_utf8 names ≡ true → list_all is_utf8 (added name names) ≡ true
added_all name [] h g = rw h refl
added_all name (other ∷ names) h g = by (is_before name other) (is_before other name) (is_utf8 other) refl g (added_all name names h)
  where
    by : (b c e : Bool) → is_utf8 other ≡ e → (e && list_all is_utf8 names) ≡ true → (list_all is_utf8 names ≡ true → list_all is_utf8 (added name names) ≡ true) → list_all is_utf8 (cond b (name ∷ (other ∷ names)) (cond c (other ∷ added name names) (other ∷ names))) ≡ true
    by true c true x k more = rw (h, x) k
    by false true true x k more = rw x (more k)
    by false false true x k more = rw x k
    by b c false x k more = cc

pub dictionary_utf8 : (j : Json) → IsValid j → list_all is_utf8 (dictionary j) ≡ true
unfolding dictionary
dictionary_utf8 j valid = once_all (object_names j) (names_utf8 j valid)
  where
    parts : (b c : Bool) → (b && c) ≡ true → (b ≡ true) × (c ≡ true)
    parts true c h = (refl, h)
    parts false c h = cc

    once_all : (names : List (List ℕ)) → list_all is_utf8 names ≡ true → list_all is_utf8 (each_once names) ≡ true
    once_all [] h = refl
    once_all (name ∷ names) h = let both = parts (is_utf8 name) (list_all is_utf8 names) h in added_all name (each_once names) both.0 (once_all names both.1)
