pub mod ChunkBack
pub mod FirstPage
pub mod Gathered
pub mod PageBack
pub mod PagesInTurn
pub mod PagesWritten
pub mod Samples
pub mod Weights
mod PiecesGiven
