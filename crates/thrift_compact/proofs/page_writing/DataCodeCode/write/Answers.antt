use Rattle.std.proofs.Common.{◌∙◌, pos}
use Rattle.thrift_compact.specs.Trees.{Fields, i32_value, no_fields, with_field}
use Rattle.thrift_compact.specs.Coded.{coded}
use Rattle.thrift_compact.specs.PageWriting.{data_fields}
use Rattle.thrift_compact.proofs.page_writing.DataCodeCode.write.Goals as goal

-- the fields that follow each one
pub returns-clause-ok : goal.returns-clause-ok
unfolding coded data_fields
returns-clause-ok c =
    let value = c.args.value.now in
    let f4 : Fields = with_field (pos 4) (i32_value value.repetition_level_encoding) no_fields in
    let f3 : Fields = with_field (pos 3) (i32_value value.definition_level_encoding) f4 in
    let f2 : Fields = with_field (pos 2) (i32_value value.encoding) f3 in
    c.in_ok-append_stop.ensures.ok ∙ c.in_ok-append_field-4.ensures.ok no_fields ∙ c.in_ok-append_field-3.ensures.ok f4 ∙ c.in_ok-append_field-2.ensures.ok f3 ∙ c.in_ok-append_field.ensures.ok f2
