pub mod Bits
pub mod CellsInTurn
pub mod ReadBack
pub mod Samples
pub mod Sizes
