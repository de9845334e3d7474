-- what is asked of the first item of some entries
pub mod Items
-- the first items of all leaves, and leaves of which they were taken
pub mod Leaves
