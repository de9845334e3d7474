-- the chunks of a row group, and their structs
pub mod GroupChunks
-- entries that a chunk can be written of
pub mod FitsChunk
-- the rows of a group that is written
pub mod GroupRows
