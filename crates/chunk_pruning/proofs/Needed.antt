-- What paths need, step by step.
use Rattle.std.proofs.Common.{◌≡◌, ◌∙◌, sym, ap, refl, ℕ, ◌+◌, ◌≤◌, ◌||◌, Bool, true, false, cond, List, Some, None, arith}
use Rattle.std.specs.Prelude.{bytes_eq, map}
use Rattle.query_tree.specs.declared.step.Step.{Step}
use Rattle.query_tree.specs.declared.step.Step.TheVariants.{Field}
use Rattle.shred_schema.specs.Groups.{Group, group, object_of, Groups, no_groups, field, groups_from, slot_width, width, groups_width}
use Rattle.shred_schema.specs.Ranges.{reads}
use Rattle.shred_schema.specs.Views.{group_of, kind_of, fields_in, named}
use Rattle.shred_schema.specs.declared.nodes.FieldList.{FieldList}
use Rattle.shred_schema.specs.declared.nodes.Node.{Node}
use Rattle.shred_schema.specs.declared.nodes.Slot.{Slot}
use Rattle.shred_schema.specs.declared.nodes.Typed.TheVariants as typed
use Rattle.shred_schema.proofs.Viewed.{node_is, kind_is_object}
use Rattle.chunk_pruning.specs.Fields.{field_at}
use Rattle.chunk_pruning.specs.Marks.{IsMarked}
use Rattle.chunk_pruning.specs.Needs.{in_field, is_value, step_need, need}

-- the field that is found is the one that is asked
pub field_here : (inside : Group → ℕ → Bool) (name : List ℕ) (other : Bool) (gs : Groups) (k : ℕ) (n : Group) (first : ℕ)
    → field_at name gs k ≡ Some (n, first) → in_field inside name other gs k ≡ inside n first
field_here inside name other no_groups k n first e = cc
field_here inside name other (field m g gs) k n first e = by (bytes_eq m name) e (field_here inside name other gs (k + width g) n first)
  where
    by : (b : Bool) → cond b (Some (g, k)) (field_at name gs (k + width g)) ≡ Some (n, first)
        → (field_at name gs (k + width g) ≡ Some (n, first) → in_field inside name other gs (k + width g) ≡ inside n first)
        → cond b (inside g k) (in_field inside name other gs (k + width g)) ≡ inside n first
    by true e rest = let same : ◌≡◌ {A = Group × ℕ} (g, k) (n, first) = cc in ap (λ p. inside p.0 p.1) same
    by false e rest = rest e

pub field_absent : (inside : Group → ℕ → Bool) (name : List ℕ) (other : Bool) (gs : Groups) (k : ℕ) → field_at name gs k ≡ None → in_field inside name other gs k ≡ other
field_absent inside name other no_groups k e = refl
field_absent inside name other (field m g gs) k e = by (bytes_eq m name) e (field_absent inside name other gs (k + width g))
  where
    by : (b : Bool) → cond b (Some (g, k)) (field_at name gs (k + width g)) ≡ None
        → (field_at name gs (k + width g) ≡ None → in_field inside name other gs (k + width g) ≡ other)
        → cond b (inside g k) (in_field inside name other gs (k + width g)) ≡ other
    by true e rest = cc
    by false e rest = rest e

-- its leaves are among those of all fields
pub field_after : (name : List ℕ) (gs : Groups) (k : ℕ) (n : Group) (first : ℕ) → field_at name gs k ≡ Some (n, first) → k ≤ first
field_after name no_groups k n first e = cc
field_after name (field m g gs) k n first e = by (bytes_eq m name) e (field_after name gs (k + width g) n first)
  where
    by : (b : Bool) → cond b (Some (g, k)) (field_at name gs (k + width g)) ≡ Some (n, first) → (field_at name gs (k + width g) ≡ Some (n, first) → k + width g ≤ first) → k ≤ first
    by true e rest = let same : ◌≡◌ {A = Group × ℕ} (g, k) (n, first) = cc in let place : k ≡ first = ap (λ p. p.1) same in omega (arith, place)
    by false e rest = omega (arith, rest e)

pub field_within : (name : List ℕ) (gs : Groups) (k : ℕ) (n : Group) (first : ℕ) → field_at name gs k ≡ Some (n, first) → first + width n ≤ k + groups_width gs
field_within name no_groups k n first e = cc
field_within name (field m g gs) k n first e = by (bytes_eq m name) e (field_within name gs (k + width g) n first)
  where
    by : (b : Bool) → cond b (Some (g, k)) (field_at name gs (k + width g)) ≡ Some (n, first)
        → (field_at name gs (k + width g) ≡ Some (n, first) → first + width n ≤ k + width g + groups_width gs) → first + width n ≤ k + (width g + groups_width gs)
    by true e rest = let same : ◌≡◌ {A = Group × ℕ} (g, k) (n, first) = cc in let end : k + width g ≡ first + width n = ap (λ p. p.1 + width p.0) same in omega (arith, end)
    by false e rest = omega (arith, rest e)

-- a step by a name marks what is needed of the field, or the value

module _ (old new : List Bool) (step : Step) (name wanted : List ℕ) (value : Slot) (gs : Groups) (others : List Step) (leaf at : ℕ)
    (is : step ≡ Field name) (asked : wanted ≡ name) (place : at ≡ leaf + slot_width value) where
  pub field_marked : (n : Group) (first : ℕ) → field_at wanted gs at ≡ Some (n, first) → IsMarked old (need others n first) new
      → IsMarked old (λ j. step_need step value (object_of gs) (λ n k. need others n k j) leaf j) new
  field_marked n first e m =
      let found : field_at name gs (leaf + slot_width value) ≡ Some (n, first) = cc in
      record {
        each = λ j. m.each j
            ∙ ap (λ b. reads old j || b) (sym (ap (λ s. step_need s value (object_of gs) (λ n k. need others n k j) leaf j) is
            ∙ field_here (λ n k. need others n k j) name (is_value value leaf j) gs (leaf + slot_width value) n first found));
      }

  pub value_marked : field_at wanted gs at ≡ None → IsMarked old (is_value value leaf) new → IsMarked old (λ j. step_need step value (object_of gs) (λ n k. need others n k j) leaf j) new
  value_marked e m =
      let absent : field_at name gs (leaf + slot_width value) ≡ None = cc in
      record {
        each = λ j. m.each j
            ∙ ap (λ b. reads old j || b) (sym (ap (λ s. step_need s value (object_of gs) (λ n k. need others n k j) leaf j) is
            ∙ field_absent (λ n k. need others n k j) name (is_value value leaf j) gs (leaf + slot_width value) absent));
      }

-- the node of an object, level by level
pub object_node : (n : Node) (fs : FieldList) (ts : List (List ℕ × Node)) → n.typed ≡ typed.Fields fs → ts ≡ fields_in fs → group_of n ≡ group n.value (object_of (groups_from (map named ts)))
object_node n fs ts e f = node_is n ∙ ap (λ t. group n.value (kind_of t)) e ∙ ap (λ t. group n.value t) (kind_is_object fs ∙ ap (λ xs. object_of (groups_from (map named xs))) (sym f))
