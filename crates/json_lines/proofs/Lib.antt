pub mod Ranges
pub mod Cutting
pub mod Fronts
pub mod Steps
pub mod Taking
