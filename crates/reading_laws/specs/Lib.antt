-- rows that a file is written of
pub mod Documents
-- masks that read each leaf
pub mod FullMasks
-- the records that the chunks of a group have
pub mod GroupRecords
-- what row records mean, one after the other
pub mod RowsMeant
-- the chunks that are written for rows, read
pub mod WrittenChunks
