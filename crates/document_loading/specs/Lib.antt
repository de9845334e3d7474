pub mod Beginning
pub mod Loading
pub mod Taken
