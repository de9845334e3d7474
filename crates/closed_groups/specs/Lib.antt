-- the row groups that are closed, and the end of a file
pub mod ClosedGroups
