pub mod Filling
pub mod NextRows
pub mod RowStarts
pub mod RowsAhead
pub mod RowsLeft
pub mod ShownShapes
pub mod TakenRows
pub mod WholeRows
