pub mod Dictionaries
pub mod Metadata
pub mod MetaRefs
pub mod Names
pub mod TypeIds
pub mod Written
