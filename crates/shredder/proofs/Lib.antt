pub mod Held
pub mod Kept
pub mod Made
pub mod Taken
