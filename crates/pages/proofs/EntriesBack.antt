-- Entries that were taken apart join again.
use Rattle.std.proofs.Common.{◌≡◌, ◌∙◌, refl, ap, ℕ, ◌==◌, Bool, true, false, cond, ◌+◌, ◌≤◌, List, [], ◌∷◌, length, Option, None, Some, arith}
use Rattle.std.specs.List.{AllByRecursion}
use Rattle.std.proofs.lemmas.List.Sums.{sum_by-cons}
use Rattle.vs_bytes.specs.declared.leaf_columns.Cell.{Cell}
use Rattle.vs_bytes.specs.declared.leaf_columns.Entry.{Entry}
use Rattle.vs_bytes.specs.declared.leaf_columns.Leaf.{Leaf}
use Rattle.plain_values.specs.Written.{IsCell}
use Rattle.pages.specs.Bodies.{entry, value_count, joined}
use Rattle.pages.specs.Entries.{rep_levels, def_levels, with_value, values, HasDue, IsEntry}

one_back : (IsKind : Cell → Type 0) (maximum rep def : ℕ) (value : Option Cell) (b : Bool) → (def == maximum) ≡ b → HasDue IsKind b value → (reps defs : List ℕ) (cells : List Cell) (entries : List Entry) →
    joined maximum reps defs cells ≡ entries → joined maximum (rep ∷ reps) (def ∷ defs) (with_value value cells) ≡ entry rep def value ∷ entries
one_back IsKind maximum rep def (Some cell) true is has reps defs cells entries rest = rw is (ap (λ (es : List Entry). entry rep def (Some cell) ∷ es) rest)
one_back IsKind maximum rep def None true is has reps defs cells entries rest = absurd has
one_back IsKind maximum rep def (Some cell) false is has reps defs cells entries rest = absurd has
one_back IsKind maximum rep def None false is has reps defs cells entries rest = rw is (ap (λ (es : List Entry). entry rep def None ∷ es) rest)

pub joined_back : (leaf : Leaf) (entries : List Entry) → AllByRecursion (IsEntry leaf) entries → joined leaf.def (rep_levels entries) (def_levels entries) (values entries) ≡ entries
joined_back leaf [] are = refl
joined_back leaf (e ∷ es) are =
    one_back (IsCell leaf.phys leaf.prim) leaf.def e.rep e.def e.value (e.def == leaf.def) refl are.0.value (rep_levels es) (def_levels es) (values es) es (joined_back leaf es are.1)

-- how many values there are
one_count : (IsKind : Cell → Type 0) (value : Option Cell) (b : Bool) → HasDue IsKind b value → (cells : List Cell) (n : ℕ) → n ≡ length cells → cond b 1 0 + n ≡ length (with_value value cells)
one_count IsKind (Some cell) true has cells n rest = omega (arith, rest)
one_count IsKind None true has cells n rest = absurd has
one_count IsKind (Some cell) false has cells n rest = absurd has
one_count IsKind None false has cells n rest = omega (arith, rest)

pub value_count_is : (leaf : Leaf) (entries : List Entry) → AllByRecursion (IsEntry leaf) entries → value_count leaf.def (def_levels entries) ≡ length (values entries)
value_count_is leaf [] are = refl
value_count_is leaf (e ∷ es) are =
    sum_by-cons (λ (def : ℕ). cond (def == leaf.def) 1 0) e.def (def_levels es)
    ∙ one_count (IsCell leaf.phys leaf.prim) e.value (e.def == leaf.def) are.0.value (values es) (value_count leaf.def (def_levels es)) (value_count_is leaf es are.1)

pub reps_within : (leaf : Leaf) (entries : List Entry) → AllByRecursion (IsEntry leaf) entries → AllByRecursion (λ level. level ≤ leaf.rep) (rep_levels entries)
reps_within leaf [] are = tt
reps_within leaf (e ∷ es) are = (are.0.rep, reps_within leaf es are.1)

pub defs_within : (leaf : Leaf) (entries : List Entry) → AllByRecursion (IsEntry leaf) entries → AllByRecursion (λ level. level ≤ leaf.def) (def_levels entries)
defs_within leaf [] are = tt
defs_within leaf (e ∷ es) are = (are.0.def, defs_within leaf es are.1)

one_value : (IsKind : Cell → Type 0) (value : Option Cell) (b : Bool) → HasDue IsKind b value → (cells : List Cell) → AllByRecursion IsKind cells → AllByRecursion IsKind (with_value value cells)
one_value IsKind (Some cell) true has cells rest = (has, rest)
one_value IsKind None true has cells rest = absurd has
one_value IsKind (Some cell) false has cells rest = absurd has
one_value IsKind None false has cells rest = rest

pub values_are : (leaf : Leaf) (entries : List Entry) → AllByRecursion (IsEntry leaf) entries → AllByRecursion (IsCell leaf.phys leaf.prim) (values entries)
values_are leaf [] are = tt
values_are leaf (e ∷ es) are = one_value (IsCell leaf.phys leaf.prim) e.value (e.def == leaf.def) are.0.value (values es) (values_are leaf es are.1)
