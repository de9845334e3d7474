-- leaves that are marked one by one
pub mod Marks
-- what paths need, step by step
pub mod Needed
-- a query needs leaves of the column alone
pub mod Leaves
-- masks as lists
pub mod Listed
