-- the column of a schema
pub mod Columns
-- what schema elements say
pub mod Elements
-- the trees of schema elements
pub mod Forests
-- what the code's values are seen as
pub mod Views
