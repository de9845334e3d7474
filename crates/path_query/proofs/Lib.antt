-- the elements of an array
pub mod Parts
-- texts after commas, and the bracket in place of the first comma
pub mod Printed
-- a path without a star has one match at most
pub mod Starless
