-- a column of texts in a list
pub mod Texts
