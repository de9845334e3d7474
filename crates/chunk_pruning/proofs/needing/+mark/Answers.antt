use Rattle.std.proofs.Common.{sym, subst, ap, ◌∷◌, map, rules, arith, ◌+◌}
use Rattle.shred_schema.specs.Groups.{Group, groups_from}
use Rattle.shred_schema.specs.Views.{named}
use Rattle.chunk_pruning.specs.Marks.{IsMarked}
use Rattle.chunk_pruning.specs.Needs.{need}
use Rattle.chunk_pruning.proofs.Needed.{field_within, field_marked, value_marked, object_node}
use Rattle.chunk_pruning.proofs.needing.+mark.Goals as goal

pub mark_object-mark_path-requires : goal.mark_object-mark_path-requires
mark_object-mark_path-requires t c =
    let within = field_within c.as_str.result.now (groups_from (map named c.args.fields.now)) _ _ _ c.in-Some.ensures in
    (search rules, (omega (arith, within, c.slot_width.ensures), c.requires.small))

pub mark_object-returns-in-Some : goal.mark_object-returns-in-Some
mark_object-returns-in-Some t c =
    field_marked _ _ c.args.step.now c.in-Field.name c.as_str.result.now c.args.value (groups_from (map named c.args.fields.now)) c.args.others.now c.args.leaf _
    c.in-Field.is c.as_str.ensures (ap (λ w. c.args.leaf + w) c.slot_width.ensures) _ _ c.in-Some.ensures c.mark_path.ensures

pub mark_object-returns-in-None : goal.mark_object-returns-in-None
mark_object-returns-in-None t c =
    value_marked _ _ c.args.step.now c.in-Field.name c.as_str.result.now c.args.value (groups_from (map named c.args.fields.now)) c.args.others.now c.args.leaf _
    c.in-Field.is c.as_str.ensures (ap (λ w. c.args.leaf + w) c.slot_width.ensures) c.in-None.ensures c.mark_value.ensures

pub mark_step-returns-in-Fields : goal.mark_step-returns-in-Fields
mark_step-returns-in-Fields t c =
    let node = object_node c.args.node.now c.in-Fields.fields c.as_slice.result.now c.in-Fields.is c.as_slice.ensures in
    subst (λ (n : Group). IsMarked c.args.mask.now (need (c.args.step.now ∷ c.args.others.now) n c.args.leaf) c.mark_object.new.mask) (sym node) c.mark_object.ensures
