pub mod Cut
pub mod Next
pub mod Takings
pub mod Answers
pub mod Buffer
pub mod Gains
pub mod Front
