-- the rows of the test's group
pub mod Given
