-- The members of an object as a list.
use Rattle.std.proofs.Common.{◌≡◌, ℕ, Bool, true, false, cond, map, subst, List, [], ◌∷◌, Option, Some, None, refl, sym, ◌∙◌, ap}
use Rattle.std.specs.Prelude.{is_some}
use Rattle.std.specs.Str.{bytes_eq}
use Rattle.json_tree.specs.Json.{Json, Parts, no_parts, part, parts_of, items_of, fields_of}
use Rattle.json_tree.specs.Order.{member_of}
use Rattle.vs_bytes.specs.Outcome.{Finds}
use Rattle.variant_read.specs.Trees.{member_named}
use Rattle.variant_read.specs.View.{json_of}
use Rattle.variant_read.specs.declared.views.ValueRef.{ValueRef}
use Rattle.json_tree.specs.View.{seen}
use Rattle.json_tree.specs.declared.types.Tree.{Tree}
use Rattle.vs_bytes.specs.Names.{repeats}
use Rattle.variant_meta.specs.Names.{names_rise}
use Rattle.variant_read.specs.Items.{member_names}
use Rattle.variant_read.proofs.Made.{not_repeated_in}
use Rattle.unshredder.specs.Merging.{pairs_of}

pub pairs_back : (members : List (List ℕ × Json)) → pairs_of (fields_of members) ≡ members
pairs_back [] = refl
pairs_back (m ∷ members) = ap (λ (rest : List (List ℕ × Json)). m ∷ rest) (pairs_back members)

pub named_is : (name : List ℕ) (members : List (List ℕ × Json)) → member_named name members ≡ member_of name (fields_of members)
named_is name [] = refl
named_is name (m ∷ members) = ap (λ (rest : Option Json). cond (bytes_eq m.0 name) (Some m.1) rest) (named_is name members)

pub found_in : (name : List ℕ) (members : List (List ℕ × Json)) (found : Option ValueRef) → Finds json_of found (member_named name members) → is_some (member_of name (fields_of members)) ≡ is_some found
found_in name members None h = let e : member_of name (fields_of members) ≡ None = sym (named_is name members) ∙ h in rw e refl
found_in name members (Some value) h = let e : member_of name (fields_of members) ≡ Some (json_of value) = sym (named_is name members) ∙ h in rw e refl

pub parts_back : (parts : Parts) → parts_of (items_of parts) ≡ parts
parts_back no_parts = refl
parts_back (part j parts) = ap (λ (rest : Parts). part j rest) (parts_back parts)

pub items_back : (items : List Json) → items_of (parts_of items) ≡ items
items_back [] = refl
items_back (j ∷ items) = ap (λ (rest : List Json). j ∷ rest) (items_back items)

-- names that rise don't repeat
pub differ_in : (pairs : List (List ℕ × Tree)) (members : List (List ℕ × Json)) → map seen pairs ≡ members → names_rise (member_names members) ≡ true → repeats (map (λ pair. pair.0) pairs) ≡ false
differ_in pairs members is h = by (repeats (map (λ (pair : List ℕ × Tree). pair.0) pairs)) refl
  where
    by : (b : Bool) → repeats (map (λ (pair : List ℕ × Tree). pair.0) pairs) ≡ b → b ≡ false
    by false e = refl
    by true e = absurd (not_repeated_in pairs (subst (λ (all : List (List ℕ × Json)). names_rise (member_names all) ≡ true) (sym is) h) e)
