pub mod Chosen
pub mod Coded
pub mod Conditions
pub mod Dictionaries
pub mod Known
pub mod Layout
pub mod Primitives
