-- an option's name and value, where its word is cut
pub mod Cuts
-- what is read of digits
pub mod Parsed
-- the value that was found so far
pub mod Values
