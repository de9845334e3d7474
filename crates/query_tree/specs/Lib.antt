pub mod Asked
pub mod Formula
pub mod PathText
pub mod View
