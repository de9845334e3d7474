-- what the first leaf says of a part
pub mod FirstLeaf
-- the items of a list, one after the other
pub mod ItemTurns
-- leaves that are passed by several parts
pub mod Joined
-- parts joined to records
pub mod PartsTaken
