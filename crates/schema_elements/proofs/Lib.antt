pub mod Meeting
pub mod Texts
pub mod Trees
pub mod ElementsBack
