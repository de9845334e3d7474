use Rattle.thrift_structs.proofs.ChunksBack.{stats_read_back, column_read_back, chunk_read_back}
use Rattle.thrift_structs.proofs.laws.column_chunks_read_back.Goals as goal

pub returns-clause-statistics : goal.returns-clause-statistics
returns-clause-statistics c = λ s rest f. stats_read_back s rest f

pub returns-clause-columns : goal.returns-clause-columns
returns-clause-columns c = λ m rest f. column_read_back m rest f

pub returns-clause-chunks : goal.returns-clause-chunks
returns-clause-chunks c = λ m rest f. chunk_read_back m rest f
