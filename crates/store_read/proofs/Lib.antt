pub mod GroupSeen
pub mod GroupWalks
pub mod Reading
