-- how many entries a record has
pub mod Counted
-- entries beside the size of a text
pub mod EntrySizes
-- the leaves of a part
pub mod OwnLeaves
-- the entries of some documents
pub mod Samples
-- walks over fields, items and rows
pub mod Walks
