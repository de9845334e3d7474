-- what holds of a value that is read, if one is
pub mod Holds
-- items between commas: read as they are spelled, and spelled as they are read
pub mod ListReading
-- the longest front that passes a test
pub mod Runs
-- digits and whole numbers: the test and the relation
pub mod WholeNumbers
-- names, gaps of spaces, and words that end
pub mod Words
