pub mod Shredded
pub mod Taken
