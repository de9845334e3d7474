use Rattle.std.proofs.Common.{◌≡◌, ◌∙◌, ap, subst, ℕ, List, [], IfOk, map, length, get_or, arith}
use Rattle.vs_bytes.specs.declared.leaf_columns.Entry.{Entry}
use Rattle.thrift_structs.specs.declared.column_chunks.ChunkMeta.{ChunkMeta}
use Rattle.shred_schema.specs.Views.{group_of, row_rec_of}
use Rattle.shred_schema.proofs.NodeFacts.{column_leaf_count}
use Rattle.level_striping.specs.Entries.{stripes}
use Rattle.group_writing.specs.GroupChunks.{metas_from}
use Rattle.group_writing.proofs.GroupFits.{group_fits, chunks_are, metas_are}
use Rattle.group_writing.proofs.group_chunks.write_group.Goals as goal

pub put_chunks-requires-clause-entries : goal.put_chunks-requires-clause-entries
put_chunks-requires-clause-entries c =
    let count = column_leaf_count c.args.column.now.optional (group_of c.args.column.now.node) in
    omega (arith, count, ap length c.as_slice.ensures, ap length c.requires.leaves, ap length c.deref_mut.ensures.value, ap length c.into_vec-entries.ensures, c.in_ok-stripe.ensures.leaves)

pub put_chunks-requires-clause-few : goal.put_chunks-requires-clause-few
put_chunks-requires-clause-few c =
    let count = column_leaf_count c.args.column.now.optional (group_of c.args.column.now.node) in
    omega (arith, count, ap length c.as_slice.ensures, ap length c.requires.leaves, c.requires.column.few)

pub put_chunks-requires-clause-fit : goal.put_chunks-requires-clause-fit
put_chunks-requires-clause-fit c =
    let own : (j : ℕ) → get_or c.deref_mut.result.now j [] ≡ stripes c.args.column.now.optional (group_of c.args.column.now.node) (map row_rec_of c.args.rows.now) j = λ j. ap (λ (xs : List (List Entry)). get_or xs j []) (c.deref_mut.ensures.value ∙ c.into_vec-entries.ensures) ∙ c.in_ok-stripe.ensures.stripes j in
    group_fits c.args.column.now.optional (group_of c.args.column.now.node) (map row_rec_of c.args.rows.now) c.args.page_bytes c.as_slice.result.now c.deref_mut.result.now c.requires.rows c.requires.pages (c.as_slice.ensures ∙ c.requires.leaves) own

pub returns-clause-chunks : goal.returns-clause-chunks
returns-clause-chunks c =
    let own : (j : ℕ) → get_or c.deref_mut.result.now j [] ≡ stripes c.args.column.now.optional (group_of c.args.column.now.node) (map row_rec_of c.args.rows.now) j = λ j. ap (λ (xs : List (List Entry)). get_or xs j []) (c.deref_mut.ensures.value ∙ c.into_vec-entries.ensures) ∙ c.in_ok-stripe.ensures.stripes j in
    subst (λ (chunks : List (List ℕ)). IfOk c.put_chunks.result (λ g. g.chunks ≡ chunks)) (chunks_are c.args.page_bytes c.args.column.now.optional (group_of c.args.column.now.node) (map row_rec_of c.args.rows.now) c.as_slice.result.now c.deref_mut.result.now (c.as_slice.ensures ∙ c.requires.leaves) own) c.put_chunks.ensures.chunks

pub returns-clause-metas : goal.returns-clause-metas
returns-clause-metas c =
    let own : (j : ℕ) → get_or c.deref_mut.result.now j [] ≡ stripes c.args.column.now.optional (group_of c.args.column.now.node) (map row_rec_of c.args.rows.now) j = λ j. ap (λ (xs : List (List Entry)). get_or xs j []) (c.deref_mut.ensures.value ∙ c.into_vec-entries.ensures) ∙ c.in_ok-stripe.ensures.stripes j in
    let along = c.as_slice-2.ensures in
    subst (λ (metas : List ChunkMeta). IfOk c.put_chunks.result (λ g. g.metas ≡ metas)) (ap (λ x. metas_from c.args.page_bytes (λ j. get_or c.deref_mut.result.now j []) 0 c.args.place c.as_slice.result.now x) along ∙ metas_are c.args.page_bytes c.args.column.now.optional (group_of c.args.column.now.node) c.args.paths.now c.args.place (map row_rec_of c.args.rows.now) c.as_slice.result.now c.deref_mut.result.now (c.as_slice.ensures ∙ c.requires.leaves) own) c.put_chunks.ensures.metas
