-- What nodes and records show, level by level and field by field.
use Rattle.std.proofs.Common.{◌≡◌, ◌∙◌, sym, ap, refl, ℕ, zero, suc, ◌+◌, ◌≤◌, ◌<◌, List, [], ◌∷◌, drop, get_or, length, map, option_map, Option, Some, None, rules, arith}
use Rattle.shred_schema.specs.Groups.{Group, group, Kind, object_of, list_of, Groups, no_groups, field, groups_from}
use Rattle.shred_schema.specs.Recs.{Rec, rec, RecPart, no_recs, recs, recs_from}
use Rattle.shred_schema.specs.Views.{kind_step, groups_step, group_step, part_step, rec_step, group_of, kind_of, groups_of, fields_in, named, rec_of, part_of, part_or_empty}
use Rattle.shred_schema.specs.declared.nodes.Node.{Node, fold_out-Node}
use Rattle.shred_schema.specs.declared.nodes.FieldList.{FieldList, fold_out-FieldList}
use Rattle.shred_schema.specs.declared.nodes.Typed.{the_lemmas}
use Rattle.shred_schema.specs.declared.nodes.Typed.TheVariants as typed
use Rattle.shred_schema.specs.declared.records.Record.{Record, map-Record, fold_out-Record}
use Rattle.shred_schema.specs.declared.records.Part.{Part}

pub node_is : (n : Node) → group_of n ≡ group n.value (kind_of n.typed)
node_is n = fold_out-Node Kind Groups Group kind_step groups_step group_step n

pub fields_are : (fs : FieldList) → groups_of fs ≡ groups_from (map named (fields_in fs))
fields_are fs = fold_out-FieldList Kind Groups Group kind_step groups_step group_step fs

mapped : (v : Option (List ℕ)) (p : Option Part) → rec_step (map-Record Part Record RecPart Rec part_of rec_of (record { value = v; typed = p })) ≡ rec v (part_or_empty (option_map part_of p))
mapped v None = refl
mapped v (Some p) = refl

pub rec_is : (x : Record) → rec_of x ≡ rec x.value (part_or_empty (option_map part_of x.typed))
rec_is x = fold_out-Record RecPart Rec part_step rec_step x ∙ mapped x.value x.typed

pub kind_of_fields : (fs : FieldList) → kind_of (typed.Fields fs) ≡ object_of (groups_of fs)
kind_of_fields fs = search (rules, the_lemmas)

pub kind_is_object : (fs : FieldList) → kind_of (typed.Fields fs) ≡ object_of (groups_from (map named (fields_in fs)))
kind_is_object fs = kind_of_fields fs ∙ ap object_of (fields_are fs)

pub kind_is_list : (n : Node) → kind_of (typed.Items n) ≡ list_of (group_of n)
kind_is_list n = search (rules, the_lemmas)

-- the fields from k on begin with field k
pub fields_at : (fs : List (List ℕ × Node)) (k : ℕ) (f g : List ℕ × Node) → k < length fs
    → groups_from (map named (drop k fs)) ≡ field (get_or fs k f).0 (group_of (get_or fs k g).1) (groups_from (map named (drop (k + 1) fs)))
fields_at [] k f g h = absurd (omega arith)
fields_at (x ∷ fs) zero f g h = refl
fields_at (x ∷ fs) (suc k) f g h =
    let place : k + 1 ≡ suc k = omega arith in
    let next : suc k + 1 ≡ suc (suc k) = omega arith in
    fields_at fs k f g (omega arith)
    ∙ ap (λ i. field (get_or fs k f).0 (group_of (get_or fs k g).1) (groups_from (map named (drop i fs)))) place
    ∙ ap (λ i. field (get_or fs k f).0 (group_of (get_or fs k g).1) (groups_from (map named (drop i (x ∷ fs))))) (sym next)

pub fields_end : (fs : List (List ℕ × Node)) (k : ℕ) → length fs ≤ k → groups_from (map named (drop k fs)) ≡ no_groups
fields_end [] zero h = refl
fields_end [] (suc k) h = refl
fields_end (x ∷ fs) zero h = absurd (omega arith)
fields_end (x ∷ fs) (suc k) h = fields_end fs k (omega arith)

-- and so do records
pub recs_at : (xs : List Record) (k : ℕ) (d : Record) → k < length xs → recs_from (map rec_of (drop k xs)) ≡ recs (rec_of (get_or xs k d)) (recs_from (map rec_of (drop (k + 1) xs)))
recs_at [] k d h = absurd (omega arith)
recs_at (x ∷ xs) zero d h = refl
recs_at (x ∷ xs) (suc k) d h =
    let place : k + 1 ≡ suc k = omega arith in
    let next : suc k + 1 ≡ suc (suc k) = omega arith in
    recs_at xs k d (omega arith)
    ∙ ap (λ i. recs (rec_of (get_or xs k d)) (recs_from (map rec_of (drop i xs)))) place
    ∙ ap (λ i. recs (rec_of (get_or xs k d)) (recs_from (map rec_of (drop i (x ∷ xs))))) (sym next)

pub recs_end : (xs : List Record) (k : ℕ) → length xs ≤ k → recs_from (map rec_of (drop k xs)) ≡ no_recs
recs_end [] zero h = refl
recs_end [] (suc k) h = refl
recs_end (x ∷ xs) zero h = absurd (omega arith)
recs_end (x ∷ xs) (suc k) h = recs_end xs k (omega arith)
