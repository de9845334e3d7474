-- files that were begun from known bytes
pub mod Begun
-- files that a load wrote
pub mod Loaded
