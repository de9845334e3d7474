-- what is written is read back, node by node
pub mod Back
-- schemas that are written are ones that footers may have
pub mod Fits
-- the trees of what is written
pub mod Trees
-- schema paths are the ways to leaves
pub mod Ways
-- whole schemas
pub mod Whole
