-- the entries of a chunk, as many as the rows of its group
pub mod ChunkEntries
-- the rows of a group, or the first rule that it violates
pub mod GroupRows
-- entries fed in pieces, and the row that comes next
pub mod Filling
-- the rows of a group that are still to come
pub mod RowsAhead
