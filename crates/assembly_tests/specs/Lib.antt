-- the columns whose rows are put together
pub mod Columns
