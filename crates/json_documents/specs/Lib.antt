pub mod Documents
pub mod Input
pub mod Call
pub mod Given
pub mod Taking
