-- cells of a kind
pub mod Cells
-- values that fit a kind of cells, and the values that cells stand for
pub mod Fits
-- nodes as plain data
pub mod Groups
-- kinds of cells by physical type and annotation
pub mod Kinds
-- which nodes a column may have
pub mod Lawful
-- leaf columns
pub mod Leaves
-- a column without the leaves that are not read
pub mod Projection
-- ranges of leaves, and which of them are read
pub mod Ranges
-- records as plain data
pub mod Recs
-- which records stand in a node
pub mod Shapes
-- what nodes and records are seen as
pub mod Views
