pub mod Answer
pub mod Matches
pub mod Members
pub mod Rows
pub mod Serves
pub mod Texts
pub mod Truth
