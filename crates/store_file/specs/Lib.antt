-- places of what a file violates
pub mod Places
-- the leaves that are read
pub mod Masks
-- the opening of a file and its column
pub mod Beginning
-- the groups of a file, in order
pub mod SeenGroups
-- one group of a file, read
pub mod GroupCalls
-- what calls on a file answer and leave
pub mod FileCalls
