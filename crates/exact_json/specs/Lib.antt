pub mod Brackets
pub mod Counting
pub mod Document
pub mod Faults
pub mod Judging
pub mod Meaning
pub mod Parsing
pub mod Shown
