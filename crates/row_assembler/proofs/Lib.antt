-- what is read under a mask is read of the projected column
pub mod ReadProjected
-- rows of a projected column
pub mod RowsKept
-- all rows are the first one and those after it
pub mod RowsInTurn
-- where leaves stand among those that are read
pub mod Places
-- answers in terms of the whole column
pub mod Answered
