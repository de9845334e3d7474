-- The loops of a projection: leaves one after the other, and fields.
use Rattle.std.proofs.Common.{◌≡◌, ◌∙◌, sym, ap, refl, ℕ, suc, ◌+◌, ◌-◌, ◌≤◌, ◌<◌, Bool, true, false, not, ◌&&◌, List, [], ◌∷◌, ◌++◌, map, drop, get_or, length, append_assoc, append-nil, arith}
use Rattle.std.proofs.lemmas.List.{map-append}
use Rattle.shred_schema.specs.Groups.{Group, Groups, no_groups, field, groups_from, width, groups_width}
use Rattle.shred_schema.specs.Projection.{projected, groups_projected}
use Rattle.shred_schema.specs.Ranges.{reads, none_read}
use Rattle.shred_schema.specs.Views.{group_of, groups_of, fields_in, named}
use Rattle.shred_schema.specs.declared.nodes.FieldList.{FieldList}
use Rattle.shred_schema.specs.declared.nodes.Node.{Node}
use Rattle.shred_schema.proofs.Viewed.{fields_are, fields_at, fields_end}

-- leaf by leaf

pub none_on : (mask : List Bool) (at end : ℕ) → at < end → reads mask at ≡ false → none_read (reads mask) (at + 1) (end - (at + 1)) ≡ none_read (reads mask) at (end - at)
none_on mask at end h e =
    let count : end - at ≡ suc (end - (at + 1)) = omega arith in
    sym (ap (λ n. none_read (reads mask) at n) count ∙ ap (λ b. not b && none_read (reads mask) (at + 1) (end - (at + 1))) e)

pub none_hit : (mask : List Bool) (at end : ℕ) → at < end → reads mask at ≡ true → false ≡ none_read (reads mask) at (end - at)
none_hit mask at end h e =
    let count : end - at ≡ suc (end - (at + 1)) = omega arith in
    sym (ap (λ n. none_read (reads mask) at n) count ∙ ap (λ b. not b && none_read (reads mask) (at + 1) (end - (at + 1))) e)

pub none_end : (mask : List Bool) (at end : ℕ) → end ≤ at → true ≡ none_read (reads mask) at (end - at)
none_end mask at end h =
    let count : end - at ≡ 0 = omega arith in
    sym (ap (λ n. none_read (reads mask) at n) count)

-- field by field

abbrev pub groups_in : Groups → List (List ℕ × Group)
groups_in no_groups = []
groups_in (field name n gs) = (name, n) ∷ groups_in gs

pub listed_back : (gs : Groups) → groups_from (groups_in gs) ≡ gs
listed_back no_groups = refl
listed_back (field name n gs) = ap (λ rest. field name n rest) (listed_back gs)

-- the fields that are made, before those that are ahead
abbrev pub with_rest : FieldList → List (List ℕ × Node) → ℕ → (ℕ → Bool) → List (List ℕ × Group)
with_rest kept rest first mask = map named (fields_in kept) ++ groups_in (groups_projected (groups_from (map named rest)) first mask)

pub field_kept : (fs : List (List ℕ × Node)) (k : ℕ) (f g : List ℕ × Node) (before after : FieldList) (node : Node) (first : ℕ) (mask : ℕ → Bool) → k < length fs
    → fields_in after ≡ fields_in before ++ ((get_or fs k f).0, node) ∷ [] → group_of node ≡ projected (group_of (get_or fs k g).1) first mask
    → with_rest after (drop (k + 1) fs) (first + width (group_of (get_or fs k g).1)) mask ≡ with_rest before (drop k fs) first mask
field_kept fs k f g before after node first mask h made is =
    let rest = groups_in (groups_projected (groups_from (map named (drop (k + 1) fs))) (first + width (group_of (get_or fs k g).1)) mask) in
    ap (λ xs. map named xs ++ rest) made
    ∙ ap (λ xs. xs ++ rest) (map-append named (fields_in before) (((get_or fs k f).0, node) ∷ []))
    ∙ append_assoc (map named (fields_in before)) (((get_or fs k f).0, group_of node) ∷ []) rest
    ∙ ap (λ n. map named (fields_in before) ++ ((get_or fs k f).0, n) ∷ rest) is
    ∙ ap (λ gs. map named (fields_in before) ++ groups_in (groups_projected gs first mask)) (sym (fields_at fs k f g h))

-- the widths of the fields sum up
pub field_passed : (fs : List (List ℕ × Node)) (k : ℕ) (g : List ℕ × Node) (first whole : ℕ) → k < length fs → first + groups_width (groups_from (map named (drop k fs))) ≡ whole
    → first + width (group_of (get_or fs k g).1) + groups_width (groups_from (map named (drop (k + 1) fs))) ≡ whole
field_passed fs k g first whole h e =
    let at = ap groups_width (fields_at fs k g g h) in
    omega (arith, at, e)

pub all_kept : (fs : List (List ℕ × Node)) (k : ℕ) (kept : FieldList) (first : ℕ) (mask : ℕ → Bool) (all : Groups) → length fs ≤ k
    → with_rest kept (drop k fs) first mask ≡ groups_in all → groups_of kept ≡ all
all_kept fs k kept first mask all h e =
    let ends : groups_in (groups_projected (groups_from (map named (drop k fs))) first mask) ≡ [] = ap (λ gs. groups_in (groups_projected gs first mask)) (fields_end fs k h) in
    fields_are kept
    ∙ ap groups_from (sym (append-nil (map named (fields_in kept))))
    ∙ ap (λ xs. groups_from (map named (fields_in kept) ++ xs)) (sym ends)
    ∙ ap groups_from e
    ∙ listed_back all
