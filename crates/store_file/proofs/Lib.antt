pub mod Beginning
pub mod SeenGroups
pub mod GroupsRead
pub mod Walks
pub mod QueryWalks
pub mod CheckWalks
pub mod RowLines
