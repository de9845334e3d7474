-- items of one entry, and rows that are whole
pub mod OneEntry
-- leaves of which the first items were taken
pub mod Passing
-- items of a list inside an item of a list round it
pub mod NestedCuts
-- entries that agree in the leaves that are read
pub mod SameRead
-- how many items are read
pub mod ItemCounts
