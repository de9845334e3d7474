-- what a call reads of a file
pub mod Ranges
-- the chunks and the rows of a row group in its file
pub mod FileGroups
-- the rows of a row group that is read from its file
pub mod GroupRead
