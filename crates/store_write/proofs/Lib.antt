pub mod Ending
pub mod Standing
pub mod Starting
pub mod Steps
