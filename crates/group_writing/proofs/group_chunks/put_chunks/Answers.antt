use Rattle.std.proofs.Common.{◌≡◌, ◌∙◌, refl, ℕ, ◌+◌, ◌<◌, [], length, get_or, arith}
use Rattle.group_writing.proofs.Chunks.{no_leaf, still_small, chunk_more, meta_more, size_more, chunks_all, metas_all}
use Rattle.group_writing.proofs.group_chunks.put_chunks.Goals as goal

pub loop-j-preserved : goal.loop-j-preserved
loop-j-preserved c =
    let es = λ (k : ℕ). get_or c.args.entries.now k [] in
    let there : c.loop-j.j < length c.args.leaves.now = c.loop-j-test.true in
    let along : c.loop-j.j < length c.args.paths.now = omega (arith, c.requires.paths, there) in
    let own : c.taken-own.result ≡ es c.loop-j.j = c.taken-own.ensures.entries ∙ c.loop-j.invariant.left c.loop-j.j (omega arith) in
    record {
      chunks = chunk_more c.args.page_bytes es c.loop-j.j c.args.leaves.now _ _ c.taken-own.result c.loop-j.group.chunks c.put_chunk.new.group.chunks _ there refl own c.in_ok-put_chunk.ensures.chunks c.loop-j.invariant.chunks;
      metas = meta_more c.args.page_bytes es c.loop-j.j c.args.place c.loop-j.group.size c.put_chunk.new.group.size c.args.leaves.now c.args.paths.now _ _ c.index-paths-j.result c.taken-own.result c.loop-j.group.metas c.put_chunk.new.group.metas _ there along refl c.index-paths-j.is own c.in_ok-put_chunk.ensures.size c.in_ok-put_chunk.ensures.metas c.loop-j.invariant.metas;
      size = size_more c.loop-j.group.chunks c.put_chunk.new.group.chunks _ c.loop-j.group.size c.put_chunk.new.group.size c.in_ok-put_chunk.ensures.chunks c.loop-j.invariant.size c.in_ok-put_chunk.ensures.size;
      small = still_small c.args.page_bytes es (get_or c.args.leaves.now c.loop-j.j no_leaf) c.taken-own.result c.loop-j.j c.loop-j.group.size c.put_chunk.new.group.size (c.requires.fit c.loop-j.j no_leaf there) own c.in_ok-put_chunk.ensures.size c.loop-j.invariant.small;
      left = λ k more. c.taken-own.ensures.others k (omega (arith, more)) ∙ c.loop-j.invariant.left k (omega (arith, more));
    }

pub returns-clause-chunks : goal.returns-clause-chunks
returns-clause-chunks c = chunks_all c.args.page_bytes (λ (k : ℕ). get_or c.args.entries.now k []) c.loop-j.j c.args.leaves.now c.loop-j.group.chunks _ c.loop-j-test.false c.loop-j.invariant.chunks

pub returns-clause-metas : goal.returns-clause-metas
returns-clause-metas c = metas_all c.args.page_bytes (λ (k : ℕ). get_or c.args.entries.now k []) c.loop-j.j (c.args.place + c.loop-j.group.size) c.args.leaves.now _ c.loop-j.group.metas _ c.loop-j-test.false c.loop-j.invariant.metas
