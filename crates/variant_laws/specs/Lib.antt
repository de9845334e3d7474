pub mod Bytes
pub mod Documents
pub mod Writable
