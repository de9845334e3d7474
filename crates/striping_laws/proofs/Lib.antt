-- cells of values that fit
pub mod CellsFit
-- records and the leaves of their node
pub mod RecordsFit
-- records and the texts that they were made of
pub mod TextSizes
-- rows that can be written
pub mod WrittenRows
-- entries and their leaves
pub mod LeafEntries
-- weights of entries
pub mod EntryWeights
-- bytes of chunks
pub mod ChunkSizes
-- where rows begin
pub mod RowStarts
-- chunks of rows that can be written
pub mod WrittenChunks
