use Rattle.std.proofs.Common.{◌∙◌, pos}
use Rattle.thrift_compact.specs.Trees.{Fields, i32_value, no_fields}
use Rattle.thrift_compact.specs.Coded.{maybe}
use Rattle.thrift_compact.proofs.Appended.{grows_four}
use Rattle.schema_elements.specs.ElementWriting.{element_fields, logical_tree}
use Rattle.schema_elements.proofs.element_writing.ElementDraftStructCode.append_fields.Goals as goal

-- the fields that follow each one
pub returns-clause-ok : goal.returns-clause-ok
unfolding element_fields
returns-clause-ok c =
    let value = c.args.value.now in
    let f10 : Fields = maybe (pos 10) logical_tree value.logical_type no_fields in
    let f8 : Fields = maybe (pos 8) i32_value value.precision f10 in
    let f7 : Fields = maybe (pos 7) i32_value value.scale f8 in
    let f6 : Fields = maybe (pos 6) i32_value value.converted_type f7 in
    let f5 : Fields = maybe (pos 5) i32_value value.num_children f6 in
    c.in_ok-append_stop.ensures.ok ∙ c.in_ok-last-5.ensures.ok no_fields ∙ c.in_ok-last-4.ensures.ok f10 ∙ c.in_ok-last-3.ensures.ok f8 ∙ c.in_ok-last-2.ensures.ok f7 ∙ c.in_ok-last.ensures.ok f6 ∙ c.in_ok-append_type.ensures.ok f5

pub returns-clause-grows : goal.returns-clause-grows
returns-clause-grows c =
    let start = grows_four _ _ _ _ _ c.in_ok-append_type.ensures.grows c.in_ok-last.ensures.grows c.in_ok-last-2.ensures.grows c.in_ok-last-3.ensures.grows in
    grows_four _ _ _ _ _ start c.in_ok-last-4.ensures.grows c.in_ok-last-5.ensures.grows c.in_ok-append_stop.ensures.grows
