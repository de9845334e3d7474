-- The length of a footer, by its parts.
use Rattle.std.proofs.Common.{◌≡◌, ◌∙◌, refl, ap, ℕ, ◌+◌, List, [], ◌∷◌, ◌++◌, length, pos, arith}
use Rattle.std.specs.List.{flat_map}
use Rattle.std.proofs.lemmas.List.{length-append}
use Rattle.thrift_compact.specs.Trees.{Fields, with_field}
use Rattle.thrift_compact.specs.Coded.{field_bytes, list_bytes, coded, fields_coded}
use Rattle.thrift_structs.specs.Listed.{list_tree}
use Rattle.thrift_structs.proofs.Listed.{list_joined}
use Rattle.footer_structs.specs.FooterWriting.{group_tree, front_fields, back_fields, file_fields, footer_bytes, group_bytes}
use Rattle.footer_structs.specs.declared.row_groups.GroupMeta.{GroupMeta}
use Rattle.footer_structs.specs.declared.file_metadata.FileMeta.{FileMeta}

list_is : (gs : List GroupMeta) → list_bytes 12 (length gs) ++ flat_map group_bytes gs ≡ coded (list_tree 12 group_tree gs)
unfolding coded
list_is gs = list_joined group_tree 12 gs []

-- the list of row groups, and what follows it
groups_are : (gs : List GroupMeta) (back : Fields) → 0x19 ∷ ((list_bytes 12 (length gs) ++ flat_map group_bytes gs) ++ fields_coded 4 back) ≡ fields_coded 3 (with_field (pos 4) (list_tree 12 group_tree gs) back)
unfolding fields_coded field_bytes
groups_are gs back = ap (λ (bs : List ℕ). 0x19 ∷ (bs ++ fields_coded 4 back)) (list_is gs)

abbrev with_groups : FileMeta → List GroupMeta → FileMeta
with_groups m gs = record m { row_groups = gs }

footer_is : (m : FileMeta) (gs : List GroupMeta) → fields_coded 0 (front_fields m (with_field (pos 4) (list_tree 12 group_tree gs) (back_fields m))) ≡ footer_bytes (with_groups m gs)
unfolding file_fields front_fields back_fields
footer_is m gs = refl

pub frame_len : (m : FileMeta) (gs : List GroupMeta) (old front new : List ℕ) → ((fs : Fields) → front ++ fields_coded 3 fs ≡ old ++ fields_coded 0 (front_fields m fs)) → new ≡ ((front ++ 0x19 ∷ []) ++ list_bytes 12 (length gs)) ++ fields_coded 4 (back_fields m) → length old + length (footer_bytes (with_groups m gs)) ≡ length new + length (flat_map group_bytes gs)
frame_len m gs old front new h e =
    let groups : Fields = with_field (pos 4) (list_tree 12 group_tree gs) (back_fields m) in
    let head : List ℕ = list_bytes 12 (length gs) in
    let own : List ℕ = flat_map group_bytes gs in
    let back : List ℕ = fields_coded 4 (back_fields m) in
    let whole : front ++ (0x19 ∷ ((head ++ own) ++ back)) ≡ old ++ footer_bytes (with_groups m gs) = ap (λ (bs : List ℕ). front ++ bs) (groups_are gs (back_fields m)) ∙ h groups ∙ ap (λ (bs : List ℕ). old ++ bs) (footer_is m gs) in
    let same : length (front ++ (0x19 ∷ ((head ++ own) ++ back))) ≡ length (old ++ footer_bytes (with_groups m gs)) = ap (λ (bs : List ℕ). length bs) whole in
    let left = length-append front (0x19 ∷ ((head ++ own) ++ back)) in
    let inner = length-append (head ++ own) back in
    let list = length-append head own in
    let right = length-append old (footer_bytes (with_groups m gs)) in
    let made : length new ≡ length (((front ++ 0x19 ∷ []) ++ head) ++ back) = ap (λ (bs : List ℕ). length bs) e in
    let a = length-append ((front ++ 0x19 ∷ []) ++ head) back in
    let b = length-append (front ++ 0x19 ∷ []) head in
    let c = length-append front (0x19 ∷ []) in
    omega (arith, same, left, inner, list, right, made, a, b, c)
