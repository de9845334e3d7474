pub mod Alone
pub mod Merging
pub mod Readings
pub mod Rows
pub mod Seen
