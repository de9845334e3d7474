pub mod Kept
pub mod NoNames
pub mod Offsets
pub mod Places
pub mod ReadBack
pub mod Samples
pub mod Sizes
