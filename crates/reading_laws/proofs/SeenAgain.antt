-- What a mask leaves of a row means what the row means under this mask.
use Rattle.std.proofs.Common.{◌≡◌, ◌∙◌, refl, sym, ap, ap₂, ℕ, ◌+◌, Bool, true, false, not, ◌&&◌, ◌||◌, cond, List, [], ◌∷◌, ◌++◌, map, Option, Some, None, Result, Ok}
use Rattle.std.specs.Prelude.{is_some}
use Rattle.std.proofs.lemmas.Bool.{or_parts, and_parts}
use Rattle.json_tree.specs.Json.{Json}
use Rattle.vs_bytes.specs.Outcome.{◌>>=◌}
use Rattle.vs_bytes.specs.declared.rule.Rule.{Rule}
use Rattle.shred_schema.specs.Groups.{Group, group, Kind, free, scalar, object_of, list_of, Groups, no_groups, field, slot_width, width, kind_width, groups_width}
use Rattle.shred_schema.specs.Projection.{reads_value, kind_reads_value, fields_read_value, IsClosed}
use Rattle.shred_schema.specs.Ranges.{none_read, is_any_read}
use Rattle.shred_schema.specs.Recs.{Rec, rec, RecPart, empty, cell, fields, items, Recs, no_recs, recs, recs_in, recs_from, RowRec, absent, present}
use Rattle.shred_schema.proofs.ReadLeaves.{none_split}
use Rattle.record_assembly.specs.Shown.{shown, part_shown, fields_shown, row_shown}
use Rattle.unshredder.specs.Merging.{or_null, with_items, with_fields, member, element}
use Rattle.unshredder.specs.Rows.{any_rec, has_value, part_has_value, fields_have_value, names_needed, row_seen}
use Rattle.unshredder.specs.Seen.{value_seen, is_tested, items_seen, seen, typed_seen, fields_seen}

-- The parts of a node, each by whether none of its leaves is read.

value_again : (names : List (List ℕ)) (above : ℕ) (none : Bool) (v : Option (List ℕ)) → value_seen names above (not none) (cond none None v) ≡ value_seen names above (not none) v
value_again names above true None = refl
value_again names above true (Some bytes) = refl
value_again names above false v = refl

part_again : (f : RecPart → Result (Option Json) Rule) (value : Option Json) (none : Bool) (left whole : RecPart) → f left ≡ f whole → cond (not none) (f (cond none empty left)) (Ok value) ≡ cond (not none) (f whole) (Ok value)
part_again f value true left whole same = refl
part_again f value false left whole same = same

items_again : (tested : Bool) (f : Rec → Result (Option Json) Rule) (left : Rec → Rec) → ((x : Rec) → f (left x) ≡ f x) → (xs : Recs) → items_seen tested f (recs_from (map left (recs_in xs))) ≡ items_seen tested f xs
items_again tested f left same no_recs = refl
items_again tested f left same (recs x xs) =
    let first : f (left x) ≡ f x = same x in
    let rest : items_seen tested f (recs_from (map left (recs_in xs))) ≡ items_seen tested f xs = items_again tested f left same xs in
    λ i. first i >>= λ found. element tested found >>= λ j. rest i >>= λ js. Ok (j ∷ js)

module _ (mask : ℕ → Bool) (names : List (List ℕ)) where
  mutual
    seen_again : (n : Group) (k above : ℕ) (x : Rec) → seen mask names n k above (shown n k mask x) ≡ seen mask names n k above x
    seen_again (group s t) k above (rec v p) =
        let value_is = value_again names above (none_read mask k (slot_width s)) v in
        let typed_is : (value : Option Json) → cond (is_any_read mask (k + slot_width s) (kind_width t)) (typed_seen mask names t (k + slot_width s) above value (cond (none_read mask (k + slot_width s) (kind_width t)) empty (part_shown t (k + slot_width s) mask p))) (Ok value)
        ≡ cond (is_any_read mask (k + slot_width s) (kind_width t)) (typed_seen mask names t (k + slot_width s) above value p) (Ok value)
        = λ value. part_again (typed_seen mask names t (k + slot_width s) above value) value (none_read mask (k + slot_width s) (kind_width t)) (part_shown t (k + slot_width s) mask p) p (typed_again t (k + slot_width s) above p value) in
        λ i. value_is i >>= λ value. typed_is value i

    typed_again : (t : Kind) (k above : ℕ) (p : RecPart) (value : Option Json) → typed_seen mask names t k above value (part_shown t k mask p) ≡ typed_seen mask names t k above value p
    typed_again free k above p value = refl
    typed_again (scalar q) k above p value = refl
    typed_again (list_of n) k above (items xs) value = ap (with_items value) (items_again (is_tested mask k n) (seen mask names n k (above + 1)) (shown n k mask) (seen_again n k (above + 1)) xs)
    typed_again (list_of n) k above empty value = refl
    typed_again (list_of n) k above (cell c) value = refl
    typed_again (list_of n) k above (fields xs) value = refl
    typed_again (object_of gs) k above (fields xs) value = ap (with_fields gs value) (fields_again gs k (above + 1) xs)
    typed_again (object_of gs) k above empty value = refl
    typed_again (object_of gs) k above (cell c) value = refl
    typed_again (object_of gs) k above (items xs) value = refl

    fields_again : (gs : Groups) (k above : ℕ) (xs : Recs) → fields_seen mask names gs k above (fields_shown gs k mask xs) ≡ fields_seen mask names gs k above xs
    fields_again no_groups k above xs = refl
    fields_again (field name n gs) k above no_recs = refl
    fields_again (field name n gs) k above (recs x xs) =
        let first : seen mask names n k above (shown n k mask x) ≡ seen mask names n k above x = seen_again n k above x in
        let rest : fields_seen mask names gs (k + width n) above (fields_shown gs (k + width n) mask xs) ≡ fields_seen mask names gs (k + width n) above xs = fields_again gs (k + width n) above xs in
        λ i. first i >>= λ found. rest i >>= λ members. Ok (member name found ++ members)

-- Where no value is read, none is there that is.

nowhere : (v : Option (List ℕ)) (read : Bool) → read ≡ false → is_some v && read ≡ false
nowhere None read h = refl
nowhere (Some bytes) read h = h

neither : (a b : Bool) → a ≡ false → b ≡ false → (a || b) ≡ false
neither a b h k = rw (h, k) refl

no_item : (p : Rec → Bool) → ((x : Rec) → p x ≡ false) → (xs : Recs) → any_rec p xs ≡ false
no_item p none no_recs = refl
no_item p none (recs x xs) = neither (p x) (any_rec p xs) (none x) (no_item p none xs)

items_have : (p : Rec → Bool) (left : Rec → Rec) → ((x : Rec) → p (left x) ≡ p x) → (xs : Recs) → any_rec p (recs_from (map left (recs_in xs))) ≡ any_rec p xs
items_have p left same no_recs = refl
items_have p left same (recs x xs) = ap₂ (λ a b. a || b) (same x) (items_have p left same xs)

value_there : (none : Bool) (v : Option (List ℕ)) → (is_some (cond none None v) && not none) ≡ (is_some v && not none)
value_there true None = refl
value_there true (Some bytes) = refl
value_there false v = refl

module _ (mask : ℕ → Bool) where
  mutual
    unread_value : (n : Group) (k : ℕ) (x : Rec) → reads_value mask n k ≡ false → has_value mask n k x ≡ false
    unread_value (group s t) k (rec v p) h =
        let parts = or_parts (is_any_read mask k (slot_width s)) (kind_reads_value mask t (k + slot_width s)) h in
        neither (is_some v && is_any_read mask k (slot_width s)) (part_has_value mask t (k + slot_width s) p) (nowhere v (is_any_read mask k (slot_width s)) parts.0) (unread_part t (k + slot_width s) p parts.1)

    unread_part : (t : Kind) (k : ℕ) (p : RecPart) → kind_reads_value mask t k ≡ false → part_has_value mask t k p ≡ false
    unread_part free k p h = refl
    unread_part (scalar q) k p h = refl
    unread_part (list_of n) k (items xs) h = no_item (has_value mask n k) (λ x. unread_value n k x h) xs
    unread_part (list_of n) k empty h = refl
    unread_part (list_of n) k (cell c) h = refl
    unread_part (list_of n) k (fields xs) h = refl
    unread_part (object_of gs) k (fields xs) h = unread_fields gs k xs h
    unread_part (object_of gs) k empty h = refl
    unread_part (object_of gs) k (cell c) h = refl
    unread_part (object_of gs) k (items xs) h = refl

    unread_fields : (gs : Groups) (k : ℕ) (xs : Recs) → fields_read_value mask gs k ≡ false → fields_have_value mask gs k xs ≡ false
    unread_fields no_groups k xs h = refl
    unread_fields (field name n gs) k no_recs h = refl
    unread_fields (field name n gs) k (recs x xs) h =
        let parts = or_parts (reads_value mask n k) (fields_read_value mask gs (k + width n)) h in
        neither (has_value mask n k x) (fields_have_value mask gs (k + width n) xs) (unread_value n k x parts.0) (unread_fields gs (k + width n) xs parts.1)

  none_in : (k a b : ℕ) → none_read mask k (a + b) ≡ true → (none_read mask k a && none_read mask (k + a) b) ≡ true
  none_in k a b h = sym (none_split mask k a b) ∙ h

  mutual
    none_reads : (n : Group) (k : ℕ) → none_read mask k (width n) ≡ true → reads_value mask n k ≡ false
    none_reads (group s t) k h =
        let parts = and_parts (none_read mask k (slot_width s)) (none_read mask (k + slot_width s) (kind_width t)) (none_in k (slot_width s) (kind_width t) h) in
        neither (is_any_read mask k (slot_width s)) (kind_reads_value mask t (k + slot_width s)) (ap not parts.0) (kind_none_reads t (k + slot_width s) parts.1)

    kind_none_reads : (t : Kind) (k : ℕ) → none_read mask k (kind_width t) ≡ true → kind_reads_value mask t k ≡ false
    kind_none_reads free k h = refl
    kind_none_reads (scalar q) k h = refl
    kind_none_reads (object_of gs) k h = fields_none_read gs k h
    kind_none_reads (list_of n) k h = none_reads n k h

    fields_none_read : (gs : Groups) (k : ℕ) → none_read mask k (groups_width gs) ≡ true → fields_read_value mask gs k ≡ false
    fields_none_read no_groups k h = refl
    fields_none_read (field name n gs) k h =
        let parts = and_parts (none_read mask k (width n)) (none_read mask (k + width n) (groups_width gs)) (none_in k (width n) (groups_width gs) h) in
        neither (reads_value mask n k) (fields_read_value mask gs (k + width n)) (none_reads n k parts.0) (fields_none_read gs (k + width n) parts.1)

  -- what is left of a typed part has a value that is read where the part has
  part_has : (t : Kind) (k : ℕ) (none : Bool) (left p : RecPart) → none_read mask k (kind_width t) ≡ none → part_has_value mask t k left ≡ part_has_value mask t k p → part_has_value mask t k (cond none empty left) ≡ part_has_value mask t k p
  part_has t k true left p e same = unread_part t k empty (kind_none_reads t k e) ∙ sym (unread_part t k p (kind_none_reads t k e))
  part_has t k false left p e same = same

  mutual
    has_again : (n : Group) (k : ℕ) (x : Rec) → has_value mask n k (shown n k mask x) ≡ has_value mask n k x
    has_again (group s t) k (rec v p) = ap₂ (λ a b. a || b) (value_there (none_read mask k (slot_width s)) v)
        (part_has t (k + slot_width s) (none_read mask (k + slot_width s) (kind_width t)) (part_shown t (k + slot_width s) mask p) p refl (part_has_again t (k + slot_width s) p))

    part_has_again : (t : Kind) (k : ℕ) (p : RecPart) → part_has_value mask t k (part_shown t k mask p) ≡ part_has_value mask t k p
    part_has_again free k p = refl
    part_has_again (scalar q) k p = refl
    part_has_again (list_of n) k (items xs) = items_have (has_value mask n k) (shown n k mask) (has_again n k) xs
    part_has_again (list_of n) k empty = refl
    part_has_again (list_of n) k (cell c) = refl
    part_has_again (list_of n) k (fields xs) = refl
    part_has_again (object_of gs) k (fields xs) = fields_have_again gs k xs
    part_has_again (object_of gs) k empty = refl
    part_has_again (object_of gs) k (cell c) = refl
    part_has_again (object_of gs) k (items xs) = refl

    fields_have_again : (gs : Groups) (k : ℕ) (xs : Recs) → fields_have_value mask gs k (fields_shown gs k mask xs) ≡ fields_have_value mask gs k xs
    fields_have_again no_groups k xs = refl
    fields_have_again (field name n gs) k no_recs = refl
    fields_have_again (field name n gs) k (recs x xs) = ap₂ (λ a b. a || b) (has_again n k x) (fields_have_again gs (k + width n) xs)

-- Where a value that is read is there, a closed mask reads the metadata.
names_again : (mask : ℕ → Bool) (n : Group) (meta : List ℕ) (x : Rec) → IsClosed mask n → names_needed (has_value mask n 1 x) (cond (mask 0) meta []) ≡ names_needed (has_value mask n 1 x) meta
names_again mask n meta x closed = by (has_value mask n 1 x) (reads_value mask n 1) refl refl
  where
    by : (b c : Bool) → has_value mask n 1 x ≡ b → reads_value mask n 1 ≡ c → names_needed b (cond (mask 0) meta []) ≡ names_needed b meta
    by false c h r = refl
    by true true h r = ap (λ read. names_needed true (cond read meta [])) (closed r)
    by true false h r = let no : true ≡ false = sym h ∙ unread_value mask n 1 x r in absurd cc

pub row_seen_again : (mask : ℕ → Bool) (n : Group) (row : RowRec) → IsClosed mask n → row_seen mask n (row_shown n mask row) ≡ row_seen mask n row
unfolding row_seen
row_seen_again mask n absent closed = refl
row_seen_again mask n (present meta x) closed =
    let needed : names_needed (has_value mask n 1 (shown n 1 mask x)) (cond (mask 0) meta []) ≡ names_needed (has_value mask n 1 x) meta = ap (λ b. names_needed b (cond (mask 0) meta [])) (has_again mask n 1 x) ∙ names_again mask n meta x closed in
    let one : (names : List (List ℕ)) → seen mask names n 1 0 (shown n 1 mask x) ≡ seen mask names n 1 0 x = λ names. seen_again mask names n 1 0 x in
    λ i. needed i >>= λ names. one names i >>= λ found. Ok (Some (or_null found))
