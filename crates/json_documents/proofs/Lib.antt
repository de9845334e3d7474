pub mod Walks
pub mod Calling
pub mod InputValues
