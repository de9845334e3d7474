pub mod ChunksBack
pub mod FieldValues
pub mod Items
pub mod Listed
mod Samples
pub mod RangeSamples
