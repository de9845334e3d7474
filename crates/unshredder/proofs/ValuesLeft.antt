-- Whether what is left has a value: the state of the loops over fields and elements.
use Rattle.std.proofs.Common.{◌≡◌, ◌∙◌, sym, ap, ℕ, ◌+◌, ◌≤◌, Bool, true, false, ◌||◌, List, drop, get_or, length, map, ◌<◌, arith}
use Rattle.shred_schema.specs.Groups.{Group, Groups, no_groups, field, width, groups_nesting}
use Rattle.shred_schema.specs.Recs.{Rec, Recs, no_recs, recs, recs_from}
use Rattle.shred_schema.specs.Shapes.{FieldsHaveShape}
use Rattle.shred_schema.specs.Views.{rec_of}
use Rattle.shred_schema.specs.declared.records.Record.{Record}
use Rattle.shred_schema.proofs.Viewed.{recs_at}
use Rattle.unshredder.specs.Rows.{has_value, fields_have_value, any_rec}
use Rattle.unshredder.proofs.NextRead.{Passes}
use Rattle.unshredder.proofs.Unread.{none_there}

-- what is left of the fields, where those before them have no value; `whole` is told of all
pub record AreLeft (mask : ℕ → Bool) (most : ℕ) (whole : Bool) (first : ℕ) (gs : Groups) (xs : Recs) : Type 0 where
  pub shape : FieldsHaveShape gs xs
  pub inside : groups_nesting gs ≤ most
  pub same : fields_have_value mask gs first xs ≡ whole

-- a field that has no value
pub has_none : (mask : ℕ → Bool) (most : ℕ) (whole : Bool) (k : ℕ) (name : List ℕ) (n : Group) (gs : Groups) (x : Rec) (xs : Recs)
    → AreLeft mask most whole k (field name n gs) (recs x xs) → has_value mask n k x ≡ false → AreLeft mask most whole (k + width n) gs xs
has_none mask most whole k name n gs x xs left none = record {
  shape = left.shape.1;
  inside = omega (arith, left.inside);
  same = sym (ap (λ (b : Bool). b || fields_have_value mask gs (k + width n) xs) none) ∙ left.same;
}

-- a field that has one
pub has_one : (mask : ℕ → Bool) (most : ℕ) (whole : Bool) (k : ℕ) (name : List ℕ) (n : Group) (gs : Groups) (x : Rec) (xs : Recs)
    → AreLeft mask most whole k (field name n gs) (recs x xs) → has_value mask n k x ≡ true → true ≡ whole
has_one mask most whole k name n gs x xs left one = sym (ap (λ (b : Bool). b || fields_have_value mask gs (k + width n) xs) one) ∙ left.same

pub none_has : (mask : ℕ → Bool) (most : ℕ) (whole : Bool) (k : ℕ) (xs : Recs) → AreLeft mask most whole k no_groups xs → false ≡ whole
none_has mask most whole k no_recs left = left.same
none_has mask most whole k (recs x xs) left = left.same

pub passes_values : (mask : ℕ → Bool) (most : ℕ) (whole : Bool) → Passes mask (AreLeft mask most whole)
passes_values mask most whole = record {
  many = λ k name n gs left. left.shape;
  over = λ k name n gs x xs e left. has_none mask most whole k name n gs x xs left (none_there n mask k x e);
}

-- an element that has no value
pub rec_passed : (p : Rec → Bool) (rs : List Record) (k : ℕ) (x : Record) (whole : Bool) → k < length rs → x ≡ get_or rs k x → p (rec_of x) ≡ false → any_rec p (recs_from (map rec_of (drop k rs))) ≡ whole → any_rec p (recs_from (map rec_of (drop (k + 1) rs))) ≡ whole
rec_passed p rs k x whole h e none same =
    let here : p (rec_of (get_or rs k x)) ≡ false = ap (λ (y : Record). p (rec_of y)) (sym e) ∙ none in
    sym (ap (λ (b : Bool). b || any_rec p (recs_from (map rec_of (drop (k + 1) rs)))) here) ∙ sym (ap (any_rec p) (recs_at rs k x h)) ∙ same
