pub mod Ahead
pub mod Packed
pub mod Pieces
pub mod ReadBack
pub mod Samples
pub mod Sizes
pub mod Unpacked
pub mod Varints
