pub mod ChunkRanges
pub mod ChunkWriting
pub mod ColumnChunks
pub mod Entries
pub mod Listed
