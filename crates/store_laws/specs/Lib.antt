-- statistics that are accurate
pub mod Accuracy
-- the rows of a file, group by group
pub mod FileRows
-- files that violate no rule, and their rows
pub mod ValidFiles
