-- fields by their names
pub mod Fields
-- masks that are marked step by step
pub mod Marks
-- which leaves a query needs
pub mod Needs
