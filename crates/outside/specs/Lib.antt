pub mod Devices
pub mod Calls
pub mod Output
pub mod Sending
pub mod Memory
pub mod Streams
