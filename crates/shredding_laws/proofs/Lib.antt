pub mod Back
pub mod Merged
pub mod SameNames
pub mod SchemaNodes
pub mod Standing
pub mod WholeRows
