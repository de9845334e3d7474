-- Where no value that is read is there, the names tell nothing.
use Rattle.std.proofs.Common.{◌≡◌, refl, ℕ, ◌+◌, Bool, false, ◌&&◌, cond, List, ◌∷◌, ◌++◌, Option, Some, None, Result, Ok}
use Rattle.std.specs.Prelude.{is_some}
use Rattle.std.proofs.lemmas.Bool.{or_parts}
use Rattle.json_tree.specs.Json.{Json}
use Rattle.vs_bytes.specs.Outcome.{◌>>=◌}
use Rattle.vs_bytes.specs.declared.rule.Rule.{Rule}
use Rattle.shred_schema.specs.Groups.{Group, group, Kind, free, scalar, object_of, list_of, Groups, no_groups, field, slot_width, kind_width, width}
use Rattle.shred_schema.specs.Ranges.{is_any_read}
use Rattle.shred_schema.specs.Recs.{Rec, rec, RecPart, empty, cell, fields, items, Recs, no_recs, recs}
use Rattle.unshredder.specs.Merging.{with_items, with_fields, member, element}
use Rattle.unshredder.specs.Rows.{any_rec, has_value, part_has_value, fields_have_value}
use Rattle.unshredder.specs.Seen.{value_seen, is_tested, items_seen, seen, typed_seen, fields_seen}

value_same : (names others : List (List ℕ)) (above : ℕ) (read : Bool) (v : Option (List ℕ)) → is_some v && read ≡ false → value_seen names above read v ≡ value_seen others above read v
value_same names others above read None h = refl
value_same names others above read (Some bytes) h = rw h refl

items_same : (p : Rec → Bool) (tested : Bool) (f g : Rec → Result (Option Json) Rule) → ((x : Rec) → p x ≡ false → f x ≡ g x) → (xs : Recs) → any_rec p xs ≡ false → items_seen tested f xs ≡ items_seen tested g xs
items_same p tested f g same no_recs h = refl
items_same p tested f g same (recs x xs) h =
    let parts = or_parts (p x) (any_rec p xs) h in
    let first : f x ≡ g x = same x parts.0 in
    let rest : items_seen tested f xs ≡ items_seen tested g xs = items_same p tested f g same xs parts.1 in
    λ i. first i >>= λ found. element tested found >>= λ j. rest i >>= λ js. Ok (j ∷ js)

module _ (mask : ℕ → Bool) (names others : List (List ℕ)) where
  mutual
    pub seen_same : (n : Group) (k above : ℕ) (x : Rec) → has_value mask n k x ≡ false → seen mask names n k above x ≡ seen mask others n k above x
    seen_same (group s t) k above (rec v p) h =
        let parts = or_parts (is_some v && is_any_read mask k (slot_width s)) (part_has_value mask t (k + slot_width s) p) h in
        let value_is : value_seen names above (is_any_read mask k (slot_width s)) v ≡ value_seen others above (is_any_read mask k (slot_width s)) v = value_same names others above (is_any_read mask k (slot_width s)) v parts.0 in
        let typed_is : (value : Option Json) → typed_seen mask names t (k + slot_width s) above value p ≡ typed_seen mask others t (k + slot_width s) above value p = typed_same t (k + slot_width s) above p parts.1 in
        λ i. value_is i >>= λ value. cond (is_any_read mask (k + slot_width s) (kind_width t)) (typed_is value i) (Ok value)

    typed_same : (t : Kind) (k above : ℕ) (p : RecPart) → part_has_value mask t k p ≡ false → (value : Option Json) → typed_seen mask names t k above value p ≡ typed_seen mask others t k above value p
    typed_same free k above p h value = refl
    typed_same (scalar q) k above (cell c) h value = refl
    typed_same (scalar q) k above empty h value = refl
    typed_same (scalar q) k above (fields xs) h value = refl
    typed_same (scalar q) k above (items xs) h value = refl
    typed_same (list_of n) k above (items xs) h value =
        let each : items_seen (is_tested mask k n) (seen mask names n k (above + 1)) xs ≡ items_seen (is_tested mask k n) (seen mask others n k (above + 1)) xs = items_same (has_value mask n k) (is_tested mask k n) (seen mask names n k (above + 1)) (seen mask others n k (above + 1)) (seen_same n k (above + 1)) xs h in
        λ i. with_items value (each i)
    typed_same (list_of n) k above empty h value = refl
    typed_same (list_of n) k above (cell c) h value = refl
    typed_same (list_of n) k above (fields xs) h value = refl
    typed_same (object_of gs) k above (fields xs) h value =
        let each : fields_seen mask names gs k (above + 1) xs ≡ fields_seen mask others gs k (above + 1) xs = fields_same gs k (above + 1) xs h in
        λ i. with_fields gs value (each i)
    typed_same (object_of gs) k above empty h value = refl
    typed_same (object_of gs) k above (cell c) h value = refl
    typed_same (object_of gs) k above (items xs) h value = refl

    fields_same : (gs : Groups) (k above : ℕ) (xs : Recs) → fields_have_value mask gs k xs ≡ false → fields_seen mask names gs k above xs ≡ fields_seen mask others gs k above xs
    fields_same no_groups k above xs h = refl
    fields_same (field name n gs) k above no_recs h = refl
    fields_same (field name n gs) k above (recs x xs) h =
        let parts = or_parts (has_value mask n k x) (fields_have_value mask gs (k + width n) xs) h in
        let first : seen mask names n k above x ≡ seen mask others n k above x = seen_same n k above x parts.0 in
        let rest : fields_seen mask names gs (k + width n) above xs ≡ fields_seen mask others gs (k + width n) above xs = fields_same gs (k + width n) above xs parts.1 in
        λ i. first i >>= λ found. rest i >>= λ members. Ok (member name found ++ members)
