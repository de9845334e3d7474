pub mod Gathers
pub mod Sizes
