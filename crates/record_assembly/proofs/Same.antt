-- Leaves with the same entries are read the same.
use Rattle.std.proofs.Common.{◌≡◌, ◌∙◌, refl, sym, ap, ℕ, ◌+◌, Bool, false, List, Option, Some, None}
use Rattle.vs_bytes.specs.declared.leaf_columns.Entry.{Entry}
use Rattle.shred_schema.specs.Groups.{Group, Groups, width, groups_width}
use Rattle.shred_schema.specs.Ranges.{none_read}
use Rattle.shred_schema.specs.Recs.{Rec, Recs, RowRec}
use Rattle.record_assembly.specs.Laws.{Have}
use Rattle.record_assembly.specs.Reading.{read, fields_read, row_read}
use Rattle.record_assembly.proofs.Complete.{complete, fields_complete}
use Rattle.record_assembly.proofs.Rows.{row_complete, row_sound}
use Rattle.record_assembly.proofs.Sound.{sound, fields_sound}

-- what one reading gives the other gives
either_same : {A : Type 0} (x y : Option A) → ((q : A) → x ≡ Some q → y ≡ Some q) → ((q : A) → y ≡ Some q → x ≡ Some q) → x ≡ y
either_same None None f g = refl
either_same None (Some q) f g = g q refl
either_same (Some q) y f g = sym (f q refl)

record_given : (n : Group) (k : ℕ) (mask : ℕ → Bool) (r m d : ℕ) (es fs : ℕ → List Entry) → Have mask k (width n) fs es → (q : Rec) → read n k mask r m d es ≡ Some q → read n k mask r m d fs ≡ Some q
record_given n k mask r m d es fs same q h =
    let f = sound n k mask r m d es q h in
    complete n k mask r m d fs f.one f.of (λ j a y. same j a y ∙ f.agree j (a, y)) ∙ ap (λ x. Some x) f.is

pub read_same : (n : Group) (k : ℕ) (mask : ℕ → Bool) (r m d : ℕ) (es fs : ℕ → List Entry) → Have mask k (width n) es fs → read n k mask r m d es ≡ read n k mask r m d fs
read_same n k mask r m d es fs same =
    either_same (read n k mask r m d es) (read n k mask r m d fs) (record_given n k mask r m d es fs (λ j a y. sym (same j a y))) (record_given n k mask r m d fs es same)

fields_given : (gs : Groups) (k : ℕ) (mask : ℕ → Bool) (r m d : ℕ) (es fs : ℕ → List Entry) → Have mask k (groups_width gs) fs es → (q : Recs) → fields_read gs k mask r m d es ≡ Some q → fields_read gs k mask r m d fs ≡ Some q
fields_given gs k mask r m d es fs same q h =
    let f = fields_sound gs k mask r m d es q h in
    fields_complete gs k mask r m d fs f.one f.of (λ j a y. same j a y ∙ f.agree j (a, y)) ∙ ap (λ x. Some x) f.is

pub fields_same : (gs : Groups) (k : ℕ) (mask : ℕ → Bool) (r m d : ℕ) (es fs : ℕ → List Entry) → Have mask k (groups_width gs) es fs → fields_read gs k mask r m d es ≡ fields_read gs k mask r m d fs
fields_same gs k mask r m d es fs same =
    either_same (fields_read gs k mask r m d es) (fields_read gs k mask r m d fs) (fields_given gs k mask r m d es fs (λ j a y. sym (same j a y))) (fields_given gs k mask r m d fs es same)

row_given : (o : Bool) (n : Group) (mask : ℕ → Bool) (r : ℕ) (es fs : ℕ → List Entry) → none_read mask 0 (1 + width n) ≡ false → Have mask 0 (1 + width n) fs es → (q : RowRec) → row_read o n mask r es ≡ Some q → row_read o n mask r fs ≡ Some q
row_given o n mask r es fs some same q h =
    let f = row_sound o n mask r es q h in
    row_complete o n mask r fs f.one f.of some (λ j a y. same j a y ∙ f.agree j (a, y)) ∙ ap (λ x. Some x) f.is

pub row_same : (o : Bool) (n : Group) (mask : ℕ → Bool) (r : ℕ) (es fs : ℕ → List Entry) → none_read mask 0 (1 + width n) ≡ false → Have mask 0 (1 + width n) es fs → row_read o n mask r es ≡ row_read o n mask r fs
row_same o n mask r es fs some same =
    either_same (row_read o n mask r es) (row_read o n mask r fs) (row_given o n mask r es fs some (λ j a y. sym (same j a y))) (row_given o n mask r fs es some same)
