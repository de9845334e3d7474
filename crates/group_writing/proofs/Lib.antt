pub mod Chunks
pub mod GroupFits
