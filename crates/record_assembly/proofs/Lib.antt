-- rows with equal entries are equal
pub mod Alike
-- a record is read from its entries
pub mod Complete
-- how the entries of an item begin, and how they are cut off
pub mod Cutting
-- what is read, found again
pub mod Found
-- the leaves of a part, and how its entries begin there
pub mod Leaves
-- entries cut at lists in one another
pub mod NestedCuts
-- items read back
pub mod ReadItems
-- rows read back
pub mod Rows
-- the same entries are read the same
pub mod Same
-- what is read has these entries
pub mod Sound
