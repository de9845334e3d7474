use Rattle.std.proofs.Common.{◌∙◌, pos}
use Rattle.vs_bytes.proofs.Growing.{grows_on}
use Rattle.thrift_compact.specs.Trees.{Fields, i32_value, no_fields, with_field}
use Rattle.thrift_compact.specs.Coded.{coded}
use Rattle.thrift_compact.specs.PageWriting.{data_v2_fields}
use Rattle.thrift_compact.proofs.page_writing.DataV2CodeCode.write.Goals as goal

-- the fields that follow each one
pub returns-clause-ok : goal.returns-clause-ok
unfolding coded data_v2_fields
returns-clause-ok c =
    let value = c.args.value.now in
    let f6 : Fields = with_field (pos 6) (i32_value value.repetition_levels_byte_length) no_fields in
    let f5 : Fields = with_field (pos 5) (i32_value value.definition_levels_byte_length) f6 in
    let f4 : Fields = with_field (pos 4) (i32_value value.encoding) f5 in
    let f3 : Fields = with_field (pos 3) (i32_value value.num_rows) f4 in
    let f2 : Fields = with_field (pos 2) (i32_value value.num_nulls) f3 in
    c.in_ok-append_stop.ensures.ok ∙ c.in_ok-append_field-6.ensures.ok no_fields ∙ c.in_ok-append_field-5.ensures.ok f6 ∙ c.in_ok-append_field-4.ensures.ok f5 ∙ c.in_ok-append_field-3.ensures.ok f4 ∙ c.in_ok-append_field-2.ensures.ok f3 ∙ c.in_ok-append_field.ensures.ok f2

pub returns-clause-grows : goal.returns-clause-grows
returns-clause-grows c = grows_on _ _ _ c.in_ok-append_field.ensures.grows (grows_on _ _ _ c.in_ok-append_field-2.ensures.grows (grows_on _ _ _ c.in_ok-append_field-3.ensures.grows (grows_on _ _ _ c.in_ok-append_field-4.ensures.grows (grows_on _ _ _ c.in_ok-append_field-5.ensures.grows (grows_on _ _ _ c.in_ok-append_field-6.ensures.grows (c.in_ok-append_stop.ensures.grows))))))
