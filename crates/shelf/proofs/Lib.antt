pub mod Adding
pub mod Appending
pub mod FileMaps
