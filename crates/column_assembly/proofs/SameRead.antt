-- Entries that agree in the leaves that are read are read as the same.
use Rattle.std.proofs.Common.{◌≡◌, ◌∙◌, refl, sym, ap, ap₂, ℕ, ◌+◌, Bool, List, Option, Some, None}
use Rattle.vs_bytes.specs.declared.leaf_columns.Entry.{Entry}
use Rattle.shred_schema.specs.Groups.{Group, Groups, no_groups, field, width, groups_width}
use Rattle.shred_schema.specs.Recs.{Rec}
use Rattle.shred_schema.proofs.LeafRanges.{among_left, among_right}
use Rattle.record_assembly.specs.Laws.{Have}
use Rattle.record_assembly.specs.Reading.{read, with_field, fields_read}
use Rattle.record_assembly.proofs.Complete.{complete}
use Rattle.record_assembly.proofs.Sound.{sound}

read_on : (n : Group) (k : ℕ) (mask : ℕ → Bool) (r m d : ℕ) (es fs : ℕ → List Entry) (q : Rec) → Have mask k (width n) fs es → read n k mask r m d es ≡ Some q → read n k mask r m d fs ≡ Some q
read_on n k mask r m d es fs q same h =
    let f = sound n k mask r m d es q h in
    complete n k mask r m d fs f.one f.of (λ j a y. same j a y ∙ f.agree j (a, y)) ∙ ap Some f.is

pub read_same : (n : Group) (k : ℕ) (mask : ℕ → Bool) (r m d : ℕ) (es fs : ℕ → List Entry) → Have mask k (width n) es fs → read n k mask r m d es ≡ read n k mask r m d fs
read_same n k mask r m d es fs same = by (read n k mask r m d es) (read n k mask r m d fs) refl refl
  where
    by : (o p : Option Rec) → read n k mask r m d es ≡ o → read n k mask r m d fs ≡ p → read n k mask r m d es ≡ read n k mask r m d fs
    by None None e f = e ∙ sym f
    by None (Some q) e f = read_on n k mask r m d fs es q same f ∙ sym f
    by (Some q) p e f = e ∙ sym (read_on n k mask r m d es fs q (λ j a y. sym (same j a y)) e)

pub fields_same : (gs : Groups) (k : ℕ) (mask : ℕ → Bool) (r m d : ℕ) (es fs : ℕ → List Entry) → Have mask k (groups_width gs) es fs → fields_read gs k mask r m d es ≡ fields_read gs k mask r m d fs
fields_same no_groups k mask r m d es fs same = refl
fields_same (field name n gs) k mask r m d es fs same =
    ap₂ with_field
    (read_same n k mask r m d es fs (λ j a y. same j (among_left j k (width n) (groups_width gs) a) y))
    (fields_same gs (k + width n) mask r m d es fs (λ j a y. same j (among_right j k (width n) (groups_width gs) a) y))
