-- records whose values fit the physical types of their leaves
pub mod Fitting
-- rows as the writer of a file has them
pub mod Rows
