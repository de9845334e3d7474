-- the ends of a load
pub mod LoadEnds
-- a footer that is too long
pub mod Overflowing
-- documents, taken one by one
pub mod TakingRows
