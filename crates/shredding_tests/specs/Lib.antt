-- the column of a schema
pub mod Texts
