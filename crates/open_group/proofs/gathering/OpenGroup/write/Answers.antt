use Rattle.std.proofs.Common.{◌≡◌, ◌∙◌, List, length, subst, sym, ap, map, Bool, true, arith}
use Rattle.thrift_structs.specs.Listed.{ListFits}
use Rattle.thrift_structs.specs.ChunkWriting.{ChunkFits}
use Rattle.thrift_structs.specs.declared.column_chunks.ChunkMeta.{ChunkMeta}
use Rattle.group_writing.specs.GroupChunks.{chunks_size, chunks_written, chunk_metas}
use Rattle.open_group.proofs.Sizes.{metas_fit, group_sized}
use Rattle.shred_schema.specs.Views.{group_of, row_rec_of}
use Rattle.schema_parsing.specs.Canonical.{schema_text}
use Rattle.group_writing.specs.GroupRows.{IsGroup}
use Rattle.open_group.proofs.Gathers.{well_formed}
use Rattle.open_group.proofs.gathering.OpenGroup.write.Goals as goal

pub write_group-requires-clause-column : goal.write_group-requires-clause-column
write_group-requires-clause-column c =
    let n = group_of c.self.inside.column.node in
    well_formed (schema_text n) n c.self.invariant.is_column.schema

pub write_group-requires-clause-rows : goal.write_group-requires-clause-rows
write_group-requires-clause-rows c =
    let n = group_of c.self.inside.column.node in
    let rows = map row_rec_of c.self.inside.gathered.rows in
    subst (λ (o : Bool). IsGroup o n rows) (sym c.self.invariant.is_column.optional)
    (record { total = c.self.inside.gathered.texts; few = c.self.invariant.gathered.few; written = c.self.invariant.gathered.written })

pub returns-in-Ok-clause-fits : goal.returns-in-Ok-clause-fits
returns-in-Ok-clause-fits c =
    let g = c.self.inside in
    let n = group_of g.column.node in
    let known = c.self.invariant in
    let records = map row_rec_of g.gathered.rows in
    let is : c.in-Ok.group.metas ≡ chunk_metas g.settings.page_bytes true n g.paths c.args.place records =
    c.in-Ok.ensures.metas ∙ ap (λ (o : Bool). chunk_metas g.settings.page_bytes o n g.paths c.args.place records) known.is_column.optional in
    subst (λ (ms : List ChunkMeta). ListFits ChunkFits ms) (sym is)
    (metas_fit n g.paths g.settings.page_bytes c.args.place g.gathered.texts records (well_formed (schema_text n) n known.is_column.schema) known.gathered.written known.gathered.few known.is_column.each known.is_column.short)

pub returns-in-Ok-clause-sized : goal.returns-in-Ok-clause-sized
returns-in-Ok-clause-sized c =
    let g = c.self.inside in
    let n = group_of g.column.node in
    let known = c.self.invariant in
    let records = map row_rec_of g.gathered.rows in
    let page = g.settings.page_bytes in
    let metas : length c.in-Ok.group.metas ≡ length (chunk_metas page true n g.paths c.args.place records) =
    ap length (c.in-Ok.ensures.metas ∙ ap (λ (o : Bool). chunk_metas page o n g.paths c.args.place records) known.is_column.optional) in
    let size : c.in-Ok.group.size ≡ chunks_size (chunks_written page true n records) =
    c.in-Ok.ensures.size ∙ ap chunks_size (c.in-Ok.ensures.chunks ∙ ap (λ (o : Bool). chunks_written page o n records) known.is_column.optional) in
    omega (arith, metas, size, group_sized n g.paths page c.args.place g.gathered.texts records known.gathered.written known.gathered.few known.chosen.pages known.is_column.each)
