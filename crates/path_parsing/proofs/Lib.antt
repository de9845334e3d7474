-- the canonical text of a path is no longer than the path, and its steps have a text
pub mod CanonicalLengths
-- the canonical text of steps is a path of them
pub mod CanonicalTexts
-- what is spelled is read
pub mod Complete
-- the digits that an index is printed with
pub mod Decimals
-- an index fits into 32 bits
pub mod Indexes
-- the lengths of what is spelled
pub mod Lengths
-- the canonical spelling of a string is no longer than any other
pub mod QuotedLengths
-- what is read is spelled
pub mod Sound
-- what is read of a string is spelled
pub mod Strings
-- whole texts
pub mod Texts
-- one turn of the loop over steps
pub mod Turns
