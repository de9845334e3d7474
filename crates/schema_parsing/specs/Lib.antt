pub mod Canonical
pub mod Grammar
pub mod Limits
pub mod Parses
pub mod Parts
pub mod Reading
