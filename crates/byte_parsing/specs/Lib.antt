pub mod Bytes
pub mod Lists
pub mod Parse
pub mod Words
