use Rattle.std.proofs.Common.{◌∙◌, pos}
use Rattle.vs_bytes.proofs.Growing.{grows_on}
use Rattle.thrift_compact.specs.Trees.{Fields, i32_value, i64_value, binary_value, no_fields, with_field}
use Rattle.thrift_compact.specs.Coded.{maybe}
use Rattle.thrift_compact.proofs.Appended.{grows_four}
use Rattle.thrift_structs.specs.Listed.{list_tree}
use Rattle.thrift_structs.specs.ChunkWriting.{column_fields, stats_tree}
use Rattle.thrift_structs.proofs.chunk_writing.ColumnDraftStructCode.append_fields.Goals as goal

-- the fields that follow each one
pub returns-clause-ok : goal.returns-clause-ok
unfolding column_fields
returns-clause-ok c =
    let value = c.args.value.now in
    let f12 : Fields = maybe (pos 12) stats_tree value.statistics no_fields in
    let f11 : Fields = maybe (pos 11) i64_value value.dictionary_page_offset f12 in
    let f9 : Fields = with_field (pos 9) (i64_value value.data_page_offset) f11 in
    let f7 : Fields = with_field (pos 7) (i64_value value.total_compressed_size) f9 in
    let f6 : Fields = with_field (pos 6) (i64_value value.total_uncompressed_size) f7 in
    let f5 : Fields = with_field (pos 5) (i64_value value.num_values) f6 in
    let f4 : Fields = with_field (pos 4) (i32_value value.codec) f5 in
    let f3 : Fields = with_field (pos 3) (list_tree 8 binary_value value.path_in_schema) f4 in
    let f2 : Fields = with_field (pos 2) (list_tree 5 i32_value value.encodings) f3 in
    c.in_ok-append_stop.ensures.ok ∙ c.in_ok-last-2.ensures.ok no_fields ∙ c.in_ok-last.ensures.ok f12 ∙ c.in_ok-append_field-8.ensures.ok f11 ∙ c.in_ok-append_field-7.ensures.ok f9 ∙ c.in_ok-append_field-6.ensures.ok f7 ∙ c.in_ok-append_field-5.ensures.ok f6 ∙ c.in_ok-append_field-4.ensures.ok f5 ∙ c.in_ok-append_field-3.ensures.ok f4 ∙ c.in_ok-append_field-2.ensures.ok f3 ∙ c.in_ok-append_field.ensures.ok f2

pub returns-in_err-append_field-8-clause-grows : goal.returns-in_err-append_field-8-clause-grows
returns-in_err-append_field-8-clause-grows c =
    let start = grows_four _ _ _ _ _ c.in_ok-append_field.ensures.grows c.in_ok-append_field-2.ensures.grows c.in_ok-append_field-3.ensures.grows c.in_ok-append_field-4.ensures.grows in
    grows_on _ _ _ start (grows_four _ _ _ _ _ c.in_ok-append_field-5.ensures.grows c.in_ok-append_field-6.ensures.grows c.in_ok-append_field-7.ensures.grows c.in_err-append_field-8.ensures.grows)

pub returns-in_err-last-clause-grows : goal.returns-in_err-last-clause-grows
returns-in_err-last-clause-grows c =
    let start = grows_four _ _ _ _ _ c.in_ok-append_field.ensures.grows c.in_ok-append_field-2.ensures.grows c.in_ok-append_field-3.ensures.grows c.in_ok-append_field-4.ensures.grows in
    let sizes = grows_four _ _ _ _ _ c.in_ok-append_field-5.ensures.grows c.in_ok-append_field-6.ensures.grows c.in_ok-append_field-7.ensures.grows c.in_ok-append_field-8.ensures.grows in
    grows_on _ _ _ start (grows_on _ _ _ sizes c.in_err-last.ensures.grows)

pub returns-in_err-last-2-clause-grows : goal.returns-in_err-last-2-clause-grows
returns-in_err-last-2-clause-grows c =
    let start = grows_four _ _ _ _ _ c.in_ok-append_field.ensures.grows c.in_ok-append_field-2.ensures.grows c.in_ok-append_field-3.ensures.grows c.in_ok-append_field-4.ensures.grows in
    let sizes = grows_four _ _ _ _ _ c.in_ok-append_field-5.ensures.grows c.in_ok-append_field-6.ensures.grows c.in_ok-append_field-7.ensures.grows c.in_ok-append_field-8.ensures.grows in
    grows_four _ _ _ _ _ start sizes c.in_ok-last.ensures.grows c.in_err-last-2.ensures.grows

pub returns-in_err-append_stop-clause-grows : goal.returns-in_err-append_stop-clause-grows
returns-in_err-append_stop-clause-grows c =
    let start = grows_four _ _ _ _ _ c.in_ok-append_field.ensures.grows c.in_ok-append_field-2.ensures.grows c.in_ok-append_field-3.ensures.grows c.in_ok-append_field-4.ensures.grows in
    let sizes = grows_four _ _ _ _ _ c.in_ok-append_field-5.ensures.grows c.in_ok-append_field-6.ensures.grows c.in_ok-append_field-7.ensures.grows c.in_ok-append_field-8.ensures.grows in
    grows_on _ _ _ start (grows_four _ _ _ _ _ sizes c.in_ok-last.ensures.grows c.in_ok-last-2.ensures.grows c.in_err-append_stop.ensures.grows)

pub returns-clause-grows : goal.returns-clause-grows
returns-clause-grows c =
    let start = grows_four _ _ _ _ _ c.in_ok-append_field.ensures.grows c.in_ok-append_field-2.ensures.grows c.in_ok-append_field-3.ensures.grows c.in_ok-append_field-4.ensures.grows in
    let sizes = grows_four _ _ _ _ _ c.in_ok-append_field-5.ensures.grows c.in_ok-append_field-6.ensures.grows c.in_ok-append_field-7.ensures.grows c.in_ok-append_field-8.ensures.grows in
    grows_on _ _ _ start (grows_four _ _ _ _ _ sizes c.in_ok-last.ensures.grows c.in_ok-last-2.ensures.grows c.in_ok-append_stop.ensures.grows)
