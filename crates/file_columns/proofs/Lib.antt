-- lists of elements and their trees
pub mod ForestFacts
-- fields of an object, gathered one by one
pub mod Gathering
-- names that are sorted
pub mod NamesSorted
-- trees that are passed over, and listed
pub mod Passing
-- places are those of the schema's leaves
pub mod PlacesWithin
-- how deep objects and lists may nest
pub mod Rooms
-- columns are well-formed
pub mod WellFormed
