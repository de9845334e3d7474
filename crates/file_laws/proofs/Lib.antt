-- what a file is that was begun
pub mod Starts
-- what two files see that were begun from the same bytes
pub mod SeenAlike
-- the rows of a valid file, as calls see them
pub mod ValidRows
-- the lines of a query over a file whose rows are seen to their end
pub mod PrunedFiles
-- calls on valid files
pub mod ValidFiles
-- the first violation of a file
pub mod OneViolation
-- files that are made of rows
pub mod MadeFiles
-- files that a load wrote
pub mod LoadedFiles
-- what words ask a load to write
pub mod LoadWords
-- calls of the program that ended at 0
pub mod DoneCalls
