-- What is read under a mask is read where each leaf is.
use Rattle.std.proofs.Common.{◌≡◌, ◌∙◌, refl, ap, ℕ, zero, suc, ◌+◌, Bool, true, false, ◌&&◌, ◌||◌, List, Option, Some, None}
use Rattle.std.specs.Prelude.{is_some}
use Rattle.shred_schema.specs.Groups.{Group, group, Kind, free, scalar, object_of, list_of, Groups, no_groups, field, slot_width, width, kind_width}
use Rattle.shred_schema.specs.Ranges.{is_any_read, every}
use Rattle.shred_schema.specs.Recs.{Rec, rec, RecPart, empty, cell, fields, items, Recs, no_recs, recs}
use Rattle.unshredder.specs.Rows.{any_rec, has_value, part_has_value, fields_have_value}
use Rattle.unshredder.specs.Seen.{is_part_read, is_tested}

pub read_every : (mask : ℕ → Bool) (k count : ℕ) → is_any_read mask k count ≡ true → is_any_read every k count ≡ true
read_every mask k zero h = h
read_every mask k (suc count) h = refl

-- where each leaf is read, so is each part, and that both parts of an element are missing is tested

part_every : (k count : ℕ) → is_part_read every k count ≡ true
part_every k zero = refl
part_every k (suc count) = refl

pub tested_every : (k : ℕ) (n : Group) → is_tested every k n ≡ true
tested_every k (group s t) = ap (λ b. b && is_part_read every (k + slot_width s) (kind_width t)) (part_every k (slot_width s)) ∙ part_every (k + slot_width s) (kind_width t)

pub either_right : (a b : Bool) → b ≡ true → a || b ≡ true
either_right true b h = refl
either_right false b h = h

-- Values that are there.

or_more : (a b c d : Bool) → (a ≡ true → c ≡ true) → (b ≡ true → d ≡ true) → (a || b) ≡ true → (c || d) ≡ true
or_more true b c d f g h = ap (λ e. e || d) (f refl)
or_more false b true d f g h = refl
or_more false b false d f g h = g h

there : (v : Option (List ℕ)) (a b : Bool) → (a ≡ true → b ≡ true) → (is_some v && a) ≡ true → (is_some v && b) ≡ true
there None a b f h = h
there (Some bytes) a b f h = f h

some_more : (p q : Rec → Bool) → ((x : Rec) → p x ≡ true → q x ≡ true) → (xs : Recs) → any_rec p xs ≡ true → any_rec q xs ≡ true
some_more p q f no_recs h = h
some_more p q f (recs x xs) h = or_more (p x) (any_rec p xs) (q x) (any_rec q xs) (f x) (some_more p q f xs) h

module _ (mask : ℕ → Bool) where
  mutual
    pub value_every : (n : Group) (k : ℕ) (x : Rec) → has_value mask n k x ≡ true → has_value every n k x ≡ true
    value_every (group s t) k (rec v p) h =
        or_more (is_some v && is_any_read mask k (slot_width s)) (part_has_value mask t (k + slot_width s) p)
        (is_some v && is_any_read every k (slot_width s)) (part_has_value every t (k + slot_width s) p)
        (there v (is_any_read mask k (slot_width s)) (is_any_read every k (slot_width s)) (read_every mask k (slot_width s))) (part_every_has t (k + slot_width s) p) h

    part_every_has : (t : Kind) (k : ℕ) (p : RecPart) → part_has_value mask t k p ≡ true → part_has_value every t k p ≡ true
    part_every_has free k p h = h
    part_every_has (scalar q) k p h = h
    part_every_has (object_of gs) k (fields xs) h = fields_every gs k xs h
    part_every_has (object_of gs) k empty h = h
    part_every_has (object_of gs) k (cell c) h = h
    part_every_has (object_of gs) k (items xs) h = h
    part_every_has (list_of n) k (items xs) h = some_more (has_value mask n k) (has_value every n k) (value_every n k) xs h
    part_every_has (list_of n) k empty h = h
    part_every_has (list_of n) k (cell c) h = h
    part_every_has (list_of n) k (fields xs) h = h

    fields_every : (gs : Groups) (k : ℕ) (xs : Recs) → fields_have_value mask gs k xs ≡ true → fields_have_value every gs k xs ≡ true
    fields_every no_groups k xs h = h
    fields_every (field name n gs) k no_recs h = h
    fields_every (field name n gs) k (recs x xs) h =
        or_more (has_value mask n k x) (fields_have_value mask gs (k + width n) xs) (has_value every n k x) (fields_have_value every gs (k + width n) xs)
        (value_every n k x) (fields_every gs (k + width n) xs) h
