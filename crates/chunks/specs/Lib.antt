pub mod PageCuts
pub mod Turns
pub mod RowStarts
pub mod Pieces
