-- rows cut into groups
pub mod Cutting
-- the bytes of a file, over how its groups and its footer are written
pub mod Frames
-- the bytes of the file of rows
pub mod Made
-- what a writer of a file has done
pub mod Writers
-- how refusals are told
pub mod Refusals
-- what the calls of a writer leave, for any bytes and rows
pub mod Steps
