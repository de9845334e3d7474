-- the entries of one item, and those of the items after it
pub mod Cuts
-- what is read has these entries
pub mod Laws
-- records and rows that are read from their entries
pub mod Reading
-- what a mask leaves of a record
pub mod Shown
