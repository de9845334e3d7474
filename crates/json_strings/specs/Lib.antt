pub mod AsciiRuns
pub mod Content
pub mod Meaning
pub mod Pieces
pub mod Places
pub mod Reading
pub mod Shown
pub mod Told
