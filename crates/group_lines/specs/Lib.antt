-- lines and trees of the rows of a group
pub mod Lines
