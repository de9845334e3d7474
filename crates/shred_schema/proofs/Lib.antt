-- cells of a kind
pub mod CellFacts
-- values that fit, and their cells
pub mod FitFacts
-- loops over fields that are projected
pub mod KeptFields
-- ranges of leaves
pub mod LeafRanges
-- nodes of well-formed columns
pub mod NodeFacts
-- projected columns
pub mod Projected
-- which leaves of a range are read
pub mod ReadLeaves
-- what nodes and records show
pub mod Viewed
-- what is of a node has its shape
pub mod ShapeFacts
-- definitions, computed on small values
pub mod Samples
