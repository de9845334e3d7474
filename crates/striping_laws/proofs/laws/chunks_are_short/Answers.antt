use Rattle.striping_laws.proofs.ChunkSizes.{chunk_most}
use Rattle.striping_laws.proofs.WrittenChunks.{chunk_short}
use Rattle.striping_laws.proofs.laws.chunks_are_short.Goals as goal

pub returns-clause-beside_weights : goal.returns-clause-beside_weights
returns-clause-beside_weights c = λ leaf page_bytes entries least. chunk_most leaf page_bytes least entries

pub returns-clause-of_groups : goal.returns-clause-of_groups
returns-clause-of_groups c = λ optional n total rows j page_bytes other all most least inside. chunk_short optional n total rows j page_bytes other all most least inside
