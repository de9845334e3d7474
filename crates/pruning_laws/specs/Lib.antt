-- what a query says of rows that are read in part
pub mod Kept
