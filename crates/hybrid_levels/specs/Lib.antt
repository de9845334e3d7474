pub mod Hybrid
pub mod Written
