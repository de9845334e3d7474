-- What the writers ask of an object, they ask of each member's value.
use Rattle.std.proofs.Common.{◌≡◌, ◌∙◌, ℕ, ◌≤◌, Bool, true, false, cond, List, length, Option, Some, None, IfSome, option_map, sym, ap, subst}
use Rattle.std.specs.Str.{bytes_eq}
use Rattle.json_tree.specs.Json.{Json, array, Parts, parts_of, Fields, no_fields, field}
use Rattle.json_tree.specs.Order.{member_of}
use Rattle.json_tree.specs.Text.{text_of, more_fields, more_parts}
use Rattle.variant_write.specs.Conditions.{HasNames, ElementsHaveNames, FieldsHaveNames}
use Rattle.variant_write.proofs.Limits.{elements_within, value_within, fields_left_within}

abbrev pub Held : List (List ℕ) → ℕ → Json → Type 0
Held names bound j = HasNames names j × (length (text_of j) ≤ bound)

pub member_held : (names : List (List ℕ)) (name : List ℕ) (members : Fields) (j : Json) (bound : ℕ) → FieldsHaveNames names members → length (more_fields members) ≤ bound → member_of name members ≡ Some j → Held names bound j
member_held names name no_fields j bound h s e = absurd cc
member_held names name (field other k members) j bound h s e = by (bytes_eq other name) e (member_held names name members j bound h.2 (fields_left_within other k members bound s))
  where
    by : (b : Bool) → cond b (Some k) (member_of name members) ≡ Some j → (member_of name members ≡ Some j → Held names bound j) → Held names bound j
    by true e f = let same : k ≡ j = cc in subst (Held names bound) same (h.1, value_within other k members bound s)
    by false e f = f e

pub found_held : {A : Type 0} → (show : A → Json) (names : List (List ℕ)) (name : List ℕ) (members : Fields) (bound : ℕ) (found : Option A) → FieldsHaveNames names members → length (more_fields members) ≤ bound → option_map show found ≡ member_of name members → IfSome found (λ a. HasNames names (show a)) × IfSome found (λ a. length (text_of (show a)) ≤ bound)
found_held show names name members bound None h s e = (tt, tt)
found_held show names name members bound (Some a) h s e = member_held names name members (show a) bound h s (sym e)

pub array_held : (names : List (List ℕ)) (bound : ℕ) (j : Json) (ps : Parts) (trees : List Json) → j ≡ array ps → ps ≡ parts_of trees → HasNames names j → length (text_of j) ≤ bound → ElementsHaveNames names (parts_of trees) × (length (more_parts (parts_of trees)) ≤ bound)
array_held names bound j ps trees e f h s =
    let all : j ≡ array (parts_of trees) = e ∙ ap array f in
    (subst (HasNames names) all h, elements_within (parts_of trees) bound (subst (λ (k : Json). length (text_of k) ≤ bound) all s))
