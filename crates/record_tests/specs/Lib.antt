-- the column of records that violate rules
pub mod Columns
