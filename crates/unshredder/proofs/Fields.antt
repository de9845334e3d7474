-- Field by field: whether some field's name is that of a member.
use Rattle.std.proofs.Common.{◌≡◌, ◌∙◌, sym, ap, refl, ℕ, ◌+◌, ◌<◌, ◌≤◌, true, false, ◌||◌, List, drop, get_or, length, map, Some, None}
use Rattle.std.specs.Prelude.{is_some}
use Rattle.json_tree.specs.Json.{Json, Fields, fields_of}
use Rattle.json_tree.specs.Order.{member_of}
use Rattle.variant_read.specs.Trees.{member_named}
use Rattle.shred_schema.specs.Groups.{Groups, groups_from}
use Rattle.shred_schema.specs.Views.{named}
use Rattle.shred_schema.specs.declared.nodes.Node.{Node}
use Rattle.shred_schema.proofs.Viewed.{fields_at, fields_end}
use Rattle.unshredder.specs.Merging.{is_in_both}
use Rattle.unshredder.proofs.Members.{named_is}

one : (fs : List (List ℕ × Node)) (k : ℕ) (f : List ℕ × Node) (members : Fields) → k < length fs → f ≡ get_or fs k f → is_in_both (groups_from (map named (drop k fs))) members ≡ is_some (member_of f.0 members) || is_in_both (groups_from (map named (drop (k + 1) fs))) members
one fs k f members h e = ap (λ (gs : Groups). is_in_both gs members) (fields_at fs k f f h) ∙ ap (λ (g : List ℕ × Node). is_some (member_of g.0 members) || is_in_both (groups_from (map named (drop (k + 1) fs))) members) (sym e)

pub field_found : (fs : List (List ℕ × Node)) (k : ℕ) (f : List ℕ × Node) (name : List ℕ) (members : List (List ℕ × Json)) (j : Json) → k < length fs → f ≡ get_or fs k f → name ≡ f.0 → member_named name members ≡ Some j → is_in_both (groups_from (map named (drop k fs))) (fields_of members) ≡ true
field_found fs k f name members j h e n m =
    let there : member_of f.0 (fields_of members) ≡ Some j = ap (λ (x : List ℕ). member_of x (fields_of members)) (sym n) ∙ sym (named_is name members) ∙ m in
    one fs k f (fields_of members) h e ∙ rw there refl

pub field_absent : (fs : List (List ℕ × Node)) (k : ℕ) (f : List ℕ × Node) (name : List ℕ) (members : List (List ℕ × Json)) → k < length fs → f ≡ get_or fs k f → name ≡ f.0 → member_named name members ≡ None → is_in_both (groups_from (map named (drop (k + 1) fs))) (fields_of members) ≡ is_in_both (groups_from (map named (drop k fs))) (fields_of members)
field_absent fs k f name members h e n m =
    let none : member_of f.0 (fields_of members) ≡ None = ap (λ (x : List ℕ). member_of x (fields_of members)) (sym n) ∙ sym (named_is name members) ∙ m in
    sym (one fs k f (fields_of members) h e ∙ rw none refl)

pub all_absent : (fs : List (List ℕ × Node)) (k : ℕ) (members : Fields) → length fs ≤ k → is_in_both (groups_from (map named (drop k fs))) members ≡ false
all_absent fs k members h = ap (λ (gs : Groups). is_in_both gs members) (fields_end fs k h)
