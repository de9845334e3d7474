pub mod Items
pub mod Judging
pub mod Layout
pub mod Meaning
pub mod Primitives
pub mod Trees
pub mod View
