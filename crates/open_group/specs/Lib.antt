-- which rows fill a group
pub mod Filling
-- a group that is open
pub mod OpenGroups
