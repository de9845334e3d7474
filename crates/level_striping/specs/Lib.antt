-- how many entries a record has
pub mod Counts
-- the entries of records, rows and columns
pub mod Entries
-- entries that were put into leaves
pub mod Gains
-- entries beside the size of a text
pub mod Sizes
