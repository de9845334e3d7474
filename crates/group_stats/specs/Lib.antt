-- which statistics are accurate, bounds included, and those that are built
pub mod Accurate
