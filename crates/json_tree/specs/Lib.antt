pub mod Codes
pub mod Grown
pub mod Inside
pub mod Json
pub mod Order
pub mod Text
pub mod Valid
pub mod View
