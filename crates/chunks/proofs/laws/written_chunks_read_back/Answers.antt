use Rattle.chunks.proofs.ChunkBack.{next_back, chunk_back}
use Rattle.chunks.proofs.laws.written_chunks_read_back.Goals as goal

pub returns-clause-page : goal.returns-clause-page
returns-clause-page c = λ leaf page left more rep def. next_back leaf rep def page left more

pub returns-clause-chunk : goal.returns-clause-chunk
returns-clause-chunk c = λ leaf page_bytes entries rep def. chunk_back leaf rep def page_bytes entries
