-- white space
pub mod Gaps
-- strings: what is read is spelled
pub mod Strings
-- a number consists of bytes of numbers, begins as one, and is what is read of its bytes
pub mod Numbers
-- what is read is spelled
mod Sound
-- what is spelled is read
mod Complete
-- whole lines
pub mod Lines
