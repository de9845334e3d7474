pub mod Storage
pub mod Calls
pub mod Memory
pub mod Folder
