pub mod Appended
pub mod Ends
pub mod Filling
pub mod PagesBack
pub mod ReadBack
mod Samples
pub mod SkipsBack
pub mod SlotsBack
pub mod Skipped
pub mod TreeEnds
pub mod TreesBack
pub mod Varints
pub mod Written
