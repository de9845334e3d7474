use Rattle.std.proofs.Common.{◌∙◌, pos}
use Rattle.thrift_compact.specs.Trees.{Fields, i32_value, no_fields, with_field}
use Rattle.thrift_compact.specs.Coded.{coded}
use Rattle.thrift_compact.specs.PageWriting.{dict_fields}
use Rattle.thrift_compact.proofs.page_writing.DictCodeCode.write.Goals as goal

-- the fields that follow each one
pub returns-clause-ok : goal.returns-clause-ok
unfolding coded dict_fields
returns-clause-ok c =
    let value = c.args.value.now in
    let f2 : Fields = with_field (pos 2) (i32_value value.encoding) no_fields in
    c.in_ok-append_stop.ensures.ok ∙ c.in_ok-append_field-2.ensures.ok no_fields ∙ c.in_ok-append_field.ensures.ok f2
