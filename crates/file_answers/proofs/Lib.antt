-- calls on a file that was begun, or wasn't
pub mod Beginnings
-- the ends of calls
pub mod FileEnds
-- files that violate nothing
pub mod Sound
-- files that stay
pub mod Unchanged
