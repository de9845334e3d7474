-- What a reading says of its node, and how readings of fields are made, field by field.
use Rattle.std.proofs.Common.{◌≡◌, ◌∙◌, sym, ap, subst, refl, ℕ, ◌+◌, ◌<◌, ◌≤◌, Bool, true, false, List, [], ◌∷◌, ◌++◌, append_assoc, drop, get_or, length, map, arith}
use Rattle.std.proofs.lemmas.List.{append-nil}
use Rattle.shred_schema.specs.Groups.{Group, Kind, object_of, list_of, Groups, no_groups, field, width, groups_width, nesting, groups_nesting, groups_from}
use Rattle.shred_schema.specs.Ranges.{is_any_read}
use Rattle.shred_schema.specs.Views.{group_of, named}
use Rattle.shred_schema.specs.declared.nodes.Node.{Node}
use Rattle.shred_schema.proofs.Viewed.{fields_at, fields_end}
use Rattle.unshredder.specs.Readings.{IsReading, AreInside, AreReadings, Begins, IsPut, IsFieldReading}
use Rattle.unshredder.specs.declared.readings.Reading.{Reading}

-- Made field by field: with readings of what is left, `inside` is those of all. The first field that is left is at `i`.
pub record IsMade (mask : ℕ → Bool) (i : ℕ) (first : ℕ) (gs : Groups) (inside : List Reading) (whole : Groups) (leaf : ℕ) : Type 0 where
  pub leaves : first + groups_width gs ≡ leaf + groups_width whole
  pub nesting : groups_nesting gs ≤ groups_nesting whole
  pub goes : (rest : List Reading) → AreReadings mask gs i first rest → AreReadings mask whole 0 leaf (inside ++ rest)

made_more : (mask : ℕ → Bool) (i first : ℕ) (name : List ℕ) (n : Group) (gs : Groups) (inside : List Reading) (whole : Groups) (leaf : ℕ) (more : List Reading)
    → IsMade mask i first (field name n gs) inside whole leaf → IsPut (is_any_read mask first (width n)) (IsFieldReading mask n i first) inside more → IsMade mask (i + 1) (first + width n) gs more whole leaf
made_more mask i first name n gs inside whole leaf more made put = record {
  leaves = omega (arith, made.leaves);
  nesting = omega (arith, made.nesting);
  goes = λ rest g. by (is_any_read mask first (width n)) rest refl put g;
}
  where
    by : (there : Bool) (rest : List Reading) → is_any_read mask first (width n) ≡ there → IsPut there (IsFieldReading mask n i first) inside more → AreReadings mask gs (i + 1) (first + width n) rest → AreReadings mask whole 0 leaf (more ++ rest)
    by false rest e same g = subst (λ (done : List Reading). AreReadings mask whole 0 leaf (done ++ rest)) (sym same)
        (made.goes rest (subst (λ (b : Bool). Begins b (IsFieldReading mask n i first) (λ later. AreReadings mask gs (i + 1) (first + width n) later) rest) (sym e) g))
    by true rest e one g = subst (λ (all : List Reading). AreReadings mask whole 0 leaf all) (sym (append_assoc inside (one.0 ∷ []) rest) ∙ ap (λ (done : List Reading). done ++ rest) (sym one.1.1))
        (made.goes (one.0 ∷ rest) (subst (λ (b : Bool). Begins b (IsFieldReading mask n i first) (λ later. AreReadings mask gs (i + 1) (first + width n) later) (one.0 ∷ rest)) (sym e) (one.1.0, g)))

pub made_at : (mask : ℕ → Bool) (first next : ℕ) (fs : List (List ℕ × Node)) (k : ℕ) (f : List ℕ × Node) (inside : List Reading) (whole : Groups) (leaf : ℕ) (more : List Reading)
    → IsMade mask k first (groups_from (map named (drop k fs))) inside whole leaf → k < length fs → IsPut (is_any_read mask first (width (group_of (get_or fs k f).1))) (IsFieldReading mask (group_of (get_or fs k f).1) k first) inside more
    → next ≡ first + width (group_of (get_or fs k f).1) → IsMade mask (k + 1) next (groups_from (map named (drop (k + 1) fs))) more whole leaf
made_at mask first next fs k f inside whole leaf more made h put n =
    let this : IsMade mask k first (field (get_or fs k f).0 (group_of (get_or fs k f).1) (groups_from (map named (drop (k + 1) fs)))) inside whole leaf =
    subst (λ (gs : Groups). IsMade mask k first gs inside whole leaf) (fields_at fs k f f h) made in
    subst (λ i. IsMade mask (k + 1) i (groups_from (map named (drop (k + 1) fs))) more whole leaf) (sym n)
    (made_more mask k first (get_or fs k f).0 (group_of (get_or fs k f).1) (groups_from (map named (drop (k + 1) fs))) inside whole leaf more this put)

pub room_at : (mask : ℕ → Bool) (first : ℕ) (fs : List (List ℕ × Node)) (k : ℕ) (f : List ℕ × Node) (inside : List Reading) (whole : Groups) (leaf : ℕ)
    → IsMade mask k first (groups_from (map named (drop k fs))) inside whole leaf → k < length fs
    → (first + width (group_of (get_or fs k f).1) ≤ leaf + groups_width whole) × (nesting (group_of (get_or fs k f).1) ≤ groups_nesting whole)
room_at mask first fs k f inside whole leaf made h = (omega (arith, ap groups_width (fields_at fs k f f h), made.leaves), omega (arith, ap groups_nesting (fields_at fs k f f h), made.nesting))

pub made_all : (mask : ℕ → Bool) (first : ℕ) (fs : List (List ℕ × Node)) (k : ℕ) (inside : List Reading) (whole : Groups) (leaf : ℕ)
    → IsMade mask k first (groups_from (map named (drop k fs))) inside whole leaf → length fs ≤ k → AreReadings mask whole 0 leaf inside
made_all mask first fs k inside whole leaf made h =
    let this : IsMade mask k first no_groups inside whole leaf = subst (λ (gs : Groups). IsMade mask k first gs inside whole leaf) (fields_end fs k h) made in
    subst (λ (all : List Reading). AreReadings mask whole 0 leaf all) (append-nil inside) (this.goes [] tt)

-- The reading of an element.

pub of_element : (mask : ℕ → Bool) (t : Kind) (n : Group) (k : ℕ) (rs : List Reading) (r : Reading) → t ≡ list_of n → r ≡ get_or rs 0 r → AreInside mask t k rs → IsReading mask n k r
of_element mask t n k rs r e f h = subst (λ (s : Reading). IsReading mask n k s) (sym f) (by rs (subst (λ (u : Kind). AreInside mask u k rs) e h))
  where
    by : (rs : List Reading) → AreInside mask (list_of n) k rs → IsReading mask n k (get_or rs 0 r)
    by [] h = absurd h
    by (s ∷ []) h = h
    by (s ∷ (t ∷ rs)) h = absurd h

-- The readings of an object's fields.

pub of_fields : (mask : ℕ → Bool) (t : Kind) (gs : Groups) (k : ℕ) (rs : List Reading) → t ≡ object_of gs → AreInside mask t k rs → AreReadings mask gs 0 k rs
of_fields mask t gs k rs e h = subst (λ (u : Kind). AreInside mask u k rs) e h
